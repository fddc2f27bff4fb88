-- Whether the natives that modules name are held.
use Rattle.std.specs.Prelude.{ℕ, Bool, true, false, nat_lt, ◌&&◌, List}
use Rattle.std.specs.List.{list_all}
use Rattle.rhd_value.specs.declared.tag.FnId.{FnId}
use Rattle.rhd_func.specs.declared.func.RhaiFunc.{RhaiFunc}
use Rattle.rhd_func.specs.declared.func.RhaiFunc.TheVariants.{Pure, Method, Iterator, Plugin, StaticPlugin, Script}
use Rattle.rhd_manifest.specs.Manifest.{ManifestLists}
use Rattle.rhd_module.specs.Tree.{ModuleTree, Lists, Subs, no_subs, sub}
use Rattle.rhd_layers.specs.Lists.{Imports}
use Rattle.rhd_engine.specs.declared.builtins.Operator.{Operator}

-- the function can be called: its native has a number below this one; a script has a body, and a function that iterates isn't called
abbrev pub func_held : ℕ → RhaiFunc → Bool
func_held natives (Pure id context pure volatile) = nat_lt id.0 natives
func_held natives (Method id context pure volatile) = nat_lt id.0 natives
func_held natives (Iterator id) = false
func_held natives (Plugin id) = nat_lt id.0 natives
func_held natives (StaticPlugin id) = nat_lt id.0 natives
func_held natives (Script def env) = true

-- so can each that a declaration of these lists names, and the native of each function that is listed
abbrev pub own_held : ℕ → Lists → Bool
own_held natives own = list_all (λ p. func_held natives p.1.func) own.eager && list_all (λ e. nat_lt e.func.0 natives) own.listed

-- those of sub-modules, and of all below them
abbrev pub below_held : ℕ → Subs → Bool
below_held natives no_subs = true
below_held natives (sub name own below later) = own_held natives own && (below_held natives below && below_held natives later)

-- those of a module and of all below it
abbrev pub names_held : ℕ → ModuleTree → Bool
names_held natives m = own_held natives m.own && below_held natives m.subs

-- and those of each module
abbrev pub all_held : ℕ → List ModuleTree → Bool
all_held natives ms = list_all (names_held natives) ms

-- and those of each module with a name
abbrev pub named_held : ℕ → Imports → Bool
named_held natives es = list_all (λ e. names_held natives e.1) es

-- and those of the entries of each manifest
abbrev pub table_held : ℕ → List ManifestLists → Bool
table_held natives table = list_all (λ m. list_all (λ e. nat_lt e.func.0 natives) m.entries) table

-- and those of the built-ins
abbrev pub builtins_held : ℕ → List (Operator × FnId) → Bool
builtins_held natives bs = list_all (λ b. nat_lt b.1.0 natives) bs
