-- Static modules: how a name with `::` in it is cut, where its module is put, and what is refused.
use Rattle.std.specs.Prelude.{◌≡◌, List, [], ◌∷◌, map, Option, unwrap_or, Result, Ok, Err}
use Rattle.std.specs.List.{AllByRecursion, Contains}
use Rattle.std.specs.Map.{keys_of}
use Rattle.std.specs.Str.{trim}
use Rattle.rhd_value.specs.Tree.{Bytes}
use Rattle.rhd_hash.specs.declared.key.Key.{Key}
use Rattle.rhd_hash.specs.declared.mixer.Seeds.{Seeds}
use Rattle.rhd_hash.specs.Table.{Clashing}
use Rattle.rhd_decl.specs.declared.fault.DeclFault.{DeclFault}
use Rattle.rhd_decl.specs.declared.fault.DeclFault.TheVariants.{HashCollision, OutOfMemory}
use Rattle.rhd_module.specs.Tree.{ModuleTree, empty_module}
use Rattle.rhd_module.specs.Contents.{named, with_sub, find_sub}
use Rattle.rhd_module.specs.Walk.{tree}
use Rattle.rhd_table.specs.Indexed.{NoneClash}
use Rattle.rhd_module.specs.Index.{indexed}
use Rattle.rhd_layers.specs.Lists.{Imports, module_of, put_module}
use Rattle.rhd_layers.specs.Paths.{path_of}

-- a name is a path; where it has several parts, each is trimmed
abbrev pub trimmed : List Bytes → List Bytes
trimmed (one ∷ []) = one ∷ []
trimmed parts = map trim parts

abbrev pub parts_of : Bytes → List Bytes
parts_of name = trimmed (path_of name)

-- The module of a part of a name: where it is the last, the added one; else the held one or a new one, with the module of the next part below it. It is indexed, and gets the part as id where it has none.
abbrev pub placed : Seeds → ModuleTree → Bytes → List Bytes → Option ModuleTree → ModuleTree
placed seeds added part [] held = named part (indexed added)
placed seeds added part (next ∷ more) held =
    let outer = unwrap_or held (empty_module seeds) in
    named part (indexed (with_sub next (placed seeds added next more (find_sub next outer.subs)) outer))

-- the modules of all parts, the outermost first
abbrev pub made : Seeds → ModuleTree → Bytes → List Bytes → Option ModuleTree → List ModuleTree
made seeds added part [] held = placed seeds added part [] held ∷ []
made seeds added part (next ∷ more) held =
    placed seeds added part (next ∷ more) held ∷ made seeds added next more (find_sub next (unwrap_or held (empty_module seeds)).subs)

-- static modules with one more under the parts of a name
abbrev pub put_static : Seeds → ModuleTree → List Bytes → Imports → Imports
put_static seeds added [] statics = statics
put_static seeds added (part ∷ more) statics = put_module part (placed seeds added part more (module_of part statics)) statics

abbrev pub with_static : Seeds → Bytes → ModuleTree → Imports → Imports
with_static seeds name added statics = put_static seeds added (parts_of name) statics

-- the modules that are made for it, each of which is indexed
abbrev pub made_by : Seeds → ModuleTree → List Bytes → Imports → List ModuleTree
made_by seeds added [] statics = []
made_by seeds added (part ∷ more) statics = made seeds added part more (module_of part statics)

abbrev pub made_static : Seeds → Bytes → ModuleTree → Imports → List ModuleTree
made_static seeds name added statics = made_by seeds added (parts_of name) statics

-- no two keys of a module's tree clash
abbrev pub TreeClear : ModuleTree → Type 0
TreeClear m = NoneClash m.own.seeds (keys_of (tree m))

-- two keys of the tree of one of these modules clash
abbrev pub TreeClash : List ModuleTree → Key → Key → Type 0
TreeClash ms held new = (m : ModuleTree) × Contains ms m × Clashing m.own.seeds (keys_of (tree m)) held new

-- why modules whose trees are to be indexed are refused
abbrev pub IsTreeRefusal : List ModuleTree → DeclFault → Type 0
IsTreeRefusal ms OutOfMemory = Unit {0}
IsTreeRefusal ms (HashCollision held other) = TreeClash ms held other
IsTreeRefusal ms fault = ⊥

-- what registering a static module answers, and the static modules that it leaves
abbrev pub Places : {A : Type 0} → Seeds → Bytes → ModuleTree → Imports → Result A DeclFault → Imports → Type 0
Places seeds name added old (Ok answer) new = (new ≡ with_static seeds name added old) × AllByRecursion TreeClear (made_static seeds name added old)
Places seeds name added old (Err OutOfMemory) new = new ≡ old
Places seeds name added old (Err (HashCollision held other)) new = TreeClash (made_static seeds name added old) held other × (new ≡ old)
Places seeds name added old (Err fault) new = ⊥
