-- What a module keeps of its own declarations and of its tree, after a declaration is put or its comments are set.
use Rattle.std.proofs.Common.{◌≡◌, ℕ, ◌==◌, ◌&&◌, ◌||◌, Bool, true, false, cond, List, [], ◌∷◌, Option, None, Some, is_none, refl, sym, ap, ◌∙◌, true≢false}
use Rattle.std.specs.List.{list_any}
use Rattle.std.specs.Map.{lookup}
use Rattle.rhd_hash.specs.declared.key.Key.{Key}
use Rattle.rhd_hash.specs.declared.mixer.Seeds.{Seeds}
use Rattle.rhd_hash.specs.Keys.{key_eq, key_eq-Decides, has_dynamic}
use Rattle.rhd_hash.specs.Parts.{untyped_key, dynamic_hash}
use Rattle.rhd_hash.specs.Filter.{slot, is_marked}
use Rattle.rhd_decl.specs.declared.declaration.Declaration.{Declaration}
use Rattle.rhd_manifest.specs.Entry.{Entry}
use Rattle.rhd_table.specs.Pairs.{Pairs, put}
use Rattle.rhd_table.specs.Marks.{has_slot, may_be_dynamic, lists_dynamic}

or_false : (b : Bool) → (b || false) ≡ b
or_false true = refl
or_false false = refl

or_assoc : (a b c : Bool) → ((a || b) || c) ≡ (a || (b || c))
or_assoc true b c = refl
or_assoc false b c = refl

or_again : (a b : Bool) → (a || b) ≡ ((a || b) || a)
or_again true b = refl
or_again false true = refl
or_again false false = refl

-- a test of keys after a declaration is put
module _ (test : Key → Bool) (k : Key) (d : Declaration) where
  put_step : (p : Key × Declaration) (ps : Pairs) (same : Bool) → key_eq k p.0 ≡ same → list_any (λ q. test q.0) (put k d ps) ≡ (list_any (λ q. test q.0) ps || test k)
      → list_any (λ q. test q.0) (cond same ((p.0, d) ∷ ps) (p ∷ put k d ps)) ≡ ((test p.0 || list_any (λ q. test q.0) ps) || test k)
  put_step p ps true s ih = or_again (test p.0) (list_any (λ q. test q.0) ps) ∙ ap (λ (q : Key). (test p.0 || list_any (λ r. test r.0) ps) || test q) (sym ((key_eq-Decides k p.0).0 s))
  put_step p ps false s ih = ap (λ (b : Bool). test p.0 || b) ih ∙ sym (or_assoc (test p.0) (list_any (λ q. test q.0) ps) (test k))

  pub any_put : (ps : Pairs) → list_any (λ q. test q.0) (put k d ps) ≡ (list_any (λ q. test q.0) ps || test k)
  any_put [] = or_false (test k)
  any_put (p ∷ ps) = put_step p ps (key_eq k p.0) refl (any_put ps)

  there_step : (p : Key × Declaration) (ps : Pairs) (same : Bool) → key_eq k p.0 ≡ same → (is_none (lookup (key_eq k) ps) ≡ false → list_any (λ q. test q.0) (put k d ps) ≡ list_any (λ q. test q.0) ps)
      → is_none (cond same (Some p.1) (lookup (key_eq k) ps)) ≡ false → list_any (λ q. test q.0) (cond same ((p.0, d) ∷ ps) (p ∷ put k d ps)) ≡ (test p.0 || list_any (λ q. test q.0) ps)
  there_step p ps true s ih there = refl
  there_step p ps false s ih there = ap (λ (b : Bool). test p.0 || b) (ih there)

  -- where one stood there
  pub any_put_there : (ps : Pairs) → is_none (lookup (key_eq k) ps) ≡ false → list_any (λ q. test q.0) (put k d ps) ≡ list_any (λ q. test q.0) ps
  any_put_there [] there = absurd (true≢false there)
  any_put_there (p ∷ ps) there = there_step p ps (key_eq k p.0) refl (any_put_there ps) there

slot_step : (seeds : Seeds) (v : ℕ) (k : Key) (b : Bool) → has_slot (cond b (Some (untyped_key seeds k)) None) v ≡ (b && (slot 8 v == slot 8 (untyped_key seeds k)))
slot_step seeds v k true = refl
slot_step seeds v k false = refl

-- the filter, where a key was put in the place of an equal one
pub filter_there : (marks : List ℕ) (s t : Seeds) (k : Key) (d : Declaration) (old new : Pairs) (es : List Entry) → ((v : ℕ) → is_marked 8 marks v ≡ (list_any (λ p. may_be_dynamic s v p.0) old || lists_dynamic s v es)) → is_none (lookup (key_eq k) old) ≡ false
    → t ≡ s → new ≡ put k d old → (v : ℕ) → is_marked 8 marks v ≡ (list_any (λ p. may_be_dynamic t v p.0) new || lists_dynamic t v es)
filter_there marks s t k d old new es right there same is v =
    right v ∙ ap (λ b. b || lists_dynamic s v es) (sym (any_put_there (may_be_dynamic s v) k d old there)) ∙ (λ i. list_any (λ p. may_be_dynamic (sym same i) v p.0) (sym is i) || lists_dynamic (sym same i) v es)

or_between : (a b c : Bool) → ((a || b) || c) ≡ ((a || c) || b)
or_between true b c = refl
or_between false true true = refl
or_between false true false = refl
or_between false false true = refl
or_between false false false = refl

-- and where it was put last, and its hash was marked
pub filter_last : (marks marks2 : List ℕ) (s t : Seeds) (k : Key) (d : Declaration) (old new : Pairs) (es : List Entry) (dynamic : Option ℕ) → ((v : ℕ) → is_marked 8 marks v ≡ (list_any (λ p. may_be_dynamic s v p.0) old || lists_dynamic s v es))
    → dynamic ≡ dynamic_hash s k → ((v : ℕ) → is_marked 8 marks2 v ≡ (is_marked 8 marks v || has_slot dynamic v)) → t ≡ s → new ≡ put k d old
    → (v : ℕ) → is_marked 8 marks2 v ≡ (list_any (λ p. may_be_dynamic t v p.0) new || lists_dynamic t v es)
filter_last marks marks2 s t k d old new es dynamic right hash more same is v =
    more v
    ∙ (λ i. right v i || (ap (λ (o : Option ℕ). has_slot o v) hash ∙ slot_step s v k (has_dynamic k)) i)
    ∙ or_between (list_any (λ p. may_be_dynamic s v p.0) old) (lists_dynamic s v es) (may_be_dynamic s v k)
    ∙ ap (λ b. b || lists_dynamic s v es) (sym (any_put (may_be_dynamic s v) k d old))
    ∙ (λ i. list_any (λ p. may_be_dynamic (sym same i) v p.0) (sym is i) || lists_dynamic (sym same i) v es)
