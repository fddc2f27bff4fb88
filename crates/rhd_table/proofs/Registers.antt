-- Declarations that are put in one after the other: what stands then, and which keys.
use Rattle.std.proofs.Common.{◌≡◌, true, [], ◌∷◌, ◌++◌, refl, sym, ap, subst, ◌∙◌}
use Rattle.std.specs.Map.{keys_of}
use Rattle.rhd_hash.specs.declared.key.Key.{Key}
use Rattle.rhd_hash.specs.declared.mixer.Seeds.{Seeds}
use Rattle.rhd_decl.specs.declared.declaration.Declaration.{Declaration}
use Rattle.rhd_decl.specs.declared.fault.DeclFault.{DeclFault}
use Rattle.rhd_table.specs.Pairs.{Pairs, put, put_all}
use Rattle.rhd_table.specs.Indexed.{IsClash}
use Rattle.rhd_table.proofs.Puts.{kept}
use Rattle.rhd_table.proofs.Filled.{has_key, is_in, is_held, clash_among}

pub all_append : (xs ys ps : Pairs) → put_all (xs ++ ys) ps ≡ put_all ys (put_all xs ps)
all_append [] ys ps = refl
all_append (x ∷ xs) ys ps = all_append xs ys (put x.0 x.1 ps)

pub still : (k : Key) (d : Declaration) (q : Key) (ps : Pairs) → has_key q (keys_of ps) ≡ true → has_key q (keys_of (put k d ps)) ≡ true
still k d q ps h = is_held (keys_of (put k d ps)) q (kept k q d ps (is_in (keys_of ps) q h))

pub all_keeps : (xs ps : Pairs) (q : Key) → has_key q (keys_of ps) ≡ true → has_key q (keys_of (put_all xs ps)) ≡ true
all_keeps [] ps q h = h
all_keeps (x ∷ xs) ps q h = all_keeps xs (put x.0 x.1 ps) q (still x.0 x.1 q ps h)

pub clash_all : (s : Seeds) (xs ps : Pairs) (fault : DeclFault) → IsClash s (keys_of ps) fault → IsClash s (keys_of (put_all xs ps)) fault
clash_all s xs ps fault c = clash_among s s (keys_of ps) (keys_of (put_all xs ps)) fault refl (all_keeps xs ps) c

pub clash_at_pair : (s : Seeds) (front later all : Pairs) (p : Key × Declaration) (ps : Pairs) (fault : DeclFault) → all ≡ front ++ p ∷ later → IsClash s (keys_of (put p.0 p.1 (put_all front ps))) fault → IsClash s (keys_of (put_all all ps)) fault
clash_at_pair s front later all p ps fault is c =
    subst (λ (qs : Pairs). IsClash s (keys_of qs) fault) (sym (ap (λ xs. put_all xs ps) is ∙ all_append front (p ∷ later) ps)) (clash_all s later (put p.0 p.1 (put_all front ps)) fault c)
