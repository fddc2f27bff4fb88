-- What filters tell of a module and of its tree.
use Rattle.std.proofs.Common.{◌≡◌, ℕ, true, List, [], ◌∷◌, Option, None, Some, refl, ap, ◌∙◌, sym, subst}
use Rattle.std.specs.Map.{lookup}
use Rattle.std.specs.Option.{option_map}
use Rattle.rhd_hash.specs.declared.key.Key.{Key}
use Rattle.rhd_hash.specs.declared.mixer.Seeds.{Seeds}
use Rattle.rhd_hash.specs.Covers.{Covers, HasNoScript}
use Rattle.rhd_hash.specs.Filter.{is_marked}
use Rattle.rhd_hash.specs.Keys.{key_eq}
use Rattle.rhd_hash.specs.Parts.{mixed}
use Rattle.rhd_manifest.specs.Entry.{Entry, entry_decl}
use Rattle.rhd_manifest.specs.Listing.{is_none_of}
use Rattle.rhd_manifest.specs.Rank.{find_entry}
use Rattle.rhd_manifest.proofs.Places.{no_script}
use Rattle.rhd_table.specs.Indexed.{Indexed}
use Rattle.rhd_table.specs.Pairs.{Pairs}
use Rattle.rhd_module.specs.Index.{IsIndexOf, IsKept}
use Rattle.rhd_module.specs.Shown.{shown_of}
use Rattle.rhd_module.specs.Tree.{ModuleTree}
use Rattle.rhd_module.specs.Walk.{tree}
use Rattle.rhd_module.proofs.Listed.{shown_past}

none_listed : (key : Key) (es : List Entry) → is_none_of es ≡ true → find_entry key es ≡ None
none_listed key [] none = refl
none_listed key (e ∷ es) none = absurd cc

-- where nothing is listed, what is shown are the declarations
pub shown_covered : (size : ℕ) (marks : List ℕ) (seeds : Seeds) (eager : Pairs) (listed : List Entry) → is_none_of listed ≡ true → Covers size marks seeds eager → Covers size marks seeds (shown_of seeds eager listed)
unfolding Covers
shown_covered size marks seeds eager listed none covers = λ key absent.
    shown_past seeds eager listed key (covers key absent) ∙ ap (option_map (entry_decl seeds)) (none_listed key listed none)

-- no script is listed
pub shown_no_script : (seeds : Seeds) (eager : Pairs) (listed : List Entry) → HasNoScript eager → HasNoScript (shown_of seeds eager listed)
unfolding HasNoScript
shown_no_script seeds eager listed none = λ key script.
    shown_past seeds eager listed key (none key script) ∙ ap (option_map (entry_decl seeds)) (no_script key listed script)

unmapped : {A B : Type 0} (f : A → B) (o : Option A) → option_map f o ≡ None → o ≡ None
unmapped f None e = refl
unmapped f (Some x) e = absurd cc

-- what isn't in the index isn't in the tree
pub tree_covered : (size : ℕ) (marks : List ℕ) (index : Indexed) (m : ModuleTree) → IsIndexOf index m → Covers size marks index.seeds index.pairs → Covers size marks m.own.seeds (tree m)
unfolding Covers
tree_covered size marks index m is covers = λ key absent.
    unmapped (λ d. d.func) (lookup (key_eq key) (tree m)) (sym (is.2 key) ∙ covers key (ap (λ s. is_marked size marks (mixed s key)) is.0 ∙ absent))

pub tree_no_script : (index : Indexed) (m : ModuleTree) → IsIndexOf index m → HasNoScript index.pairs → HasNoScript (tree m)
unfolding HasNoScript
tree_no_script index m is none = λ key script. unmapped (λ d. d.func) (lookup (key_eq key) (tree m)) (sym (is.2 key) ∙ none key script)

-- the index of a module that is seen as another one
pub index_of : (index lent : Indexed) (m n : ModuleTree) → IsKept index m → m ≡ n → lent ≡ index → n.own.indexed ≡ true → IsIndexOf lent n
index_of index lent m n kept same is indexed =
    let own : IsIndexOf index m = kept (ap (λ (t : ModuleTree). t.own.indexed) same ∙ indexed) in
    subst (λ (i : Indexed). IsIndexOf i n) (sym is) (subst (λ (t : ModuleTree). IsIndexOf index t) same own)
