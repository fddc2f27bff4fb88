-- What a module has for a key, as a pick.
use Rattle.std.proofs.Common.{◌≡◌, refl, ap, ◌∙◌}
use Rattle.std.specs.Prelude.{Option, None, Some}
use Rattle.std.specs.Map.{lookup}
use Rattle.std.specs.Option.{option_map}
use Rattle.rhd_func.specs.declared.func.RhaiFunc.{RhaiFunc}
use Rattle.rhd_hash.specs.declared.key.Key.{Key}
use Rattle.rhd_hash.specs.Keys.{key_eq}
use Rattle.rhd_decl.specs.declared.declaration.Declaration.{Declaration}
use Rattle.rhd_module.specs.Shown.{shown, own_decl}
use Rattle.rhd_module.specs.Tree.{ModuleTree}
use Rattle.rhd_module.specs.Walk.{tree, qualified}
use Rattle.rhd_call.specs.declared.pick.Layer.{Layer}
use Rattle.rhd_call.specs.declared.pick.Pick.{Pick}
use Rattle.rhd_dispatch.specs.Searched.{pick_at}
use Rattle.rhd_dispatch.specs.Walks.{alone, rooted, picked}

by_func : (layer : Layer) (m : ModuleTree) (o : Option Declaration) → option_map {U = Pick} (λ f. picked layer f m) (option_map (λ d. d.func) o) ≡ option_map (λ d. record { layer = layer; func = d.func; source = m.own.id }) o
by_func layer m None = refl
by_func layer m (Some d) = refl

pub found_own : (layer : Layer) (m : ModuleTree) (key : Key) (func : Option RhaiFunc) → func ≡ option_map (λ d. d.func) (own_decl m key) → option_map {U = Pick} (λ f. picked layer f m) func ≡ pick_at key (alone layer m)
unfolding pick_at own_decl
found_own layer m key func is = ap (option_map {U = Pick} (λ f. picked layer f m)) is ∙ by_func layer m (lookup (key_eq key) (shown m.own))

pub found_tree : (layer : Layer) (m : ModuleTree) (key : Key) (func : Option RhaiFunc) → func ≡ option_map (λ d. d.func) (qualified m key) → option_map {U = Pick} (λ f. picked layer f m) func ≡ pick_at key (rooted layer m)
unfolding pick_at qualified
found_tree layer m key func is = ap (option_map {U = Pick} (λ f. picked layer f m)) is ∙ by_func layer m (lookup (key_eq key) (tree m))
