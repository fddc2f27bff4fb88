-- What modules lack isn't found in them.
use Rattle.std.proofs.Common.{◌≡◌, ℕ, ◌+◌, Bool, true, false, not, ◌||◌, List, [], ◌∷◌, ◌++◌, Option, None, Some, is_none, refl, ap, ◌∙◌}
use Rattle.std.specs.Prelude.{option_map}
use Rattle.std.specs.List.{list_all, enumerate_from}
use Rattle.std.specs.Map.{lookup}
use Rattle.rhd_value.specs.Tree.{Bytes}
use Rattle.rhd_value.specs.Firsts.{first_of}
use Rattle.rhd_hash.specs.declared.key.Key.{Key}
use Rattle.rhd_hash.specs.Keys.{key_eq}
use Rattle.rhd_hash.specs.Parts.{untyped}
use Rattle.rhd_decl.specs.declared.declaration.Declaration.{Declaration}
use Rattle.rhd_module.specs.Below.{may_contain}
use Rattle.rhd_module.specs.Shown.{shown, own_decl}
use Rattle.rhd_module.specs.Tree.{ModuleTree}
use Rattle.rhd_module.specs.Walk.{tree, qualified}
use Rattle.rhd_layers.specs.Marks.{lacks, lacks_below, lacks_dynamic}
use Rattle.rhd_layers.proofs.Bools.{parts}
use Rattle.rhd_call.specs.declared.pick.Layer.{Layer}
use Rattle.rhd_call.specs.declared.pick.Layer.TheVariants.{Library, Global, Import, Static}
use Rattle.rhd_engine.specs.Engine.{Imports}
use Rattle.rhd_dispatch.specs.Searched.{pick_at}
use Rattle.rhd_dispatch.specs.Walks.{alone, rooted, place_of, place_of_tree, in_own, in_tree, numbered, latest, library_places, global_places, import_trees, static_trees, found_in, may_have, any_may_have}
use Rattle.rhd_dispatch.proofs.Firsts.{or_nones, of_append, of_map, none_reverse}

none_is : {A : Type 0} (o : Option A) → is_none o ≡ true → o ≡ None
none_is None e = refl
none_is (Some x) e = absurd cc

module _ (key : Key) (layer : ℕ → Layer) where
  own_none : (at : Layer) (m : ModuleTree) → lacks key m ≡ true → pick_at key (alone at m) ≡ None
  unfolding pick_at own_decl
  own_none at m e = ap (option_map (λ (d : Declaration). record { layer = at; func = d.func; source = m.own.id })) (none_is (lookup (key_eq key) (shown m.own)) e)

  pub tree_none : (at : Layer) (m : ModuleTree) → lacks_below key m ≡ true → pick_at key (rooted at m) ≡ None
  unfolding pick_at qualified
  tree_none at m e = ap (option_map (λ (d : Declaration). record { layer = at; func = d.func; source = m.own.id })) (none_is (lookup (key_eq key) (tree m)) e)

  pub numbered_lack : (k : ℕ) (ms : List ModuleTree) → list_all (lacks key) ms ≡ true → first_of (in_own layer key) (enumerate_from k ms) ≡ None
  numbered_lack k [] all = refl
  numbered_lack k (m ∷ ms) all =
      let p = parts (lacks key m) (list_all (lacks key) ms) all in
      or_nones (in_own layer key (k, m)) (first_of (in_own layer key) (enumerate_from (k + 1) ms)) (own_none (layer k) m p.0) (numbered_lack (k + 1) ms p.1)

  pub latest_lack : (ms : List ModuleTree) → list_all (lacks key) ms ≡ true → first_of (in_own layer key) (latest ms) ≡ None
  latest_lack ms all = none_reverse (in_own layer key) (enumerate_from 0 ms) (numbered_lack 0 ms all)

  pub numbered_trees : (k : ℕ) (es : Imports) → list_all (λ e. lacks_below key e.1) es ≡ true → first_of (in_tree layer key) (enumerate_from k es) ≡ None
  numbered_trees k [] all = refl
  numbered_trees k (e ∷ es) all =
      let p = parts (lacks_below key e.1) (list_all (λ e. lacks_below key e.1) es) all in
      or_nones (in_tree layer key (k, e)) (first_of (in_tree layer key) (enumerate_from (k + 1) es)) (tree_none (layer k) e.1 p.0) (numbered_trees (k + 1) es p.1)

  pub latest_trees : (es : Imports) → list_all (λ e. lacks_below key e.1) es ≡ true → first_of (in_tree layer key) (latest es) ≡ None
  latest_trees es all = none_reverse (in_tree layer key) (enumerate_from 0 es) (numbered_trees 0 es all)

-- where no layer has anything, nothing is found
pub nothing_found : (libs globals : List ModuleTree) (imports statics : Imports) (key : Key) → first_of (in_own Library key) (latest libs) ≡ None → first_of (in_own Global key) (numbered globals) ≡ None
    → first_of (in_tree Import key) (latest imports) ≡ None → first_of (in_tree Static key) (numbered statics) ≡ None → found_in libs globals imports statics key ≡ None
nothing_found libs globals imports statics key l g i s =
    of_append (pick_at key) (library_places libs) (global_places globals ++ (import_trees imports ++ static_trees statics))
    ∙ or_nones (first_of (pick_at key) (library_places libs)) (first_of (pick_at key) (global_places globals ++ (import_trees imports ++ static_trees statics)))
    (of_map (pick_at key) (place_of Library) (latest libs) ∙ l)
    (of_append (pick_at key) (global_places globals) (import_trees imports ++ static_trees statics)
    ∙ or_nones (first_of (pick_at key) (global_places globals)) (first_of (pick_at key) (import_trees imports ++ static_trees statics))
    (of_map (pick_at key) (place_of Global) (numbered globals) ∙ g)
    (of_append (pick_at key) (import_trees imports) (static_trees statics)
    ∙ or_nones (first_of (pick_at key) (import_trees imports)) (first_of (pick_at key) (static_trees statics))
    (of_map (pick_at key) (place_of_tree Import) (latest imports) ∙ i)
    (of_map (pick_at key) (place_of_tree Static) (numbered statics) ∙ s)))

pub nowhere : (libs globals : List ModuleTree) (imports statics : Imports) (key : Key) → list_all (lacks key) libs ≡ true → list_all (lacks key) globals ≡ true → list_all (λ e. lacks_below key e.1) imports ≡ true → list_all (λ e. lacks_below key e.1) statics ≡ true
    → found_in libs globals imports statics key ≡ None
nowhere libs globals imports statics key l g i s =
    nothing_found libs globals imports statics key (latest_lack key Library libs l) (numbered_lack key Global 0 globals g) (latest_trees key Import imports i) (numbered_trees key Static 0 statics s)

neither_has : (a b : Bool) → a ≡ false → b ≡ false → (a || b) ≡ false
neither_has true b e f = e
neither_has false b e f = f

not_told : (b : Bool) → not b ≡ true → b ≡ false
not_told true e = absurd cc
not_told false e = refl

-- trees that lack natives with a parameter of any type
pub trees_lack : (name : Bytes) (params : ℕ) (es : Imports) → list_all (λ e. lacks_dynamic name params e.1) es ≡ true → any_may_have name params es ≡ false
trees_lack name params [] all = refl
trees_lack name params (e ∷ es) all =
    let p = parts (lacks_dynamic name params e.1) (list_all (λ e. lacks_dynamic name params e.1) es) all in
    neither_has (may_have name params e.1) (any_may_have name params es) (not_told (may_contain e.1 (untyped e.1.own.seeds name params)) p.0) (trees_lack name params es p.1)
