-- What making imported modules answers.
use Rattle.std.proofs.Common.{◌≡◌, List, [], ◌∷◌, ◌++◌, inl, inr, refl, sym, ap, arith, append_assoc, ◌∙◌}
use Rattle.std.specs.List.{Contains}
use Rattle.std.specs.Map.{keys_of}
use Rattle.std.proofs.lemmas.List.Elements.{Contains-append_right}
use Rattle.rhd_value.specs.Tree.{Bytes}
use Rattle.rhd_hash.specs.declared.mixer.Seeds.{Seeds}
use Rattle.rhd_func.specs.declared.func.ScriptFuncDef.{ScriptFuncDef}
use Rattle.rhd_decl.specs.declared.fault.DeclFault.{DeclFault}
use Rattle.rhd_decl.specs.declared.fault.DeclFault.TheVariants.{HashCollision, IndexerNotAllowed, NotCallable, UnknownNumber, OutOfMemory}
use Rattle.rhd_table.specs.Indexed.{IsClash}
use Rattle.rhd_module.specs.Walk.{tree}
use Rattle.rhd_layers.specs.Lists.{Imports}
use Rattle.rhd_loader.specs.Imports.{ImportedScripts}
use Rattle.rhd_loader.specs.Loads.{import_of, imports_of}
use Rattle.rhd_loader.specs.Making.{ToldClash, SomeClash}

-- a clash of declarations or of the index is told
pub told_eager : (seeds : Seeds) (defs : List ScriptFuncDef) (fault : DeclFault) → IsClash seeds (keys_of (import_of seeds defs).own.eager) fault → ToldClash seeds defs fault
told_eager seeds defs OutOfMemory c = tt
told_eager seeds defs (HashCollision held new) c = inl c
told_eager seeds defs (IndexerNotAllowed key) c = absurd c
told_eager seeds defs NotCallable c = absurd c
told_eager seeds defs (UnknownNumber number count) c = absurd c

pub told_tree : (seeds : Seeds) (defs : List ScriptFuncDef) (fault : DeclFault) → IsClash seeds (keys_of (tree (import_of seeds defs))) fault → ToldClash seeds defs fault
told_tree seeds defs OutOfMemory c = tt
told_tree seeds defs (HashCollision held new) c = inr c
told_tree seeds defs (IndexerNotAllowed key) c = absurd c
told_tree seeds defs NotCallable c = absurd c
told_tree seeds defs (UnknownNumber number count) c = absurd c

-- a clash in one of some modules
pub told_some : (seeds : Seeds) (imports : ImportedScripts) (i : Bytes × List ScriptFuncDef) (fault : DeclFault) → Contains imports i → ToldClash seeds i.1 fault → SomeClash seeds imports fault
told_some seeds imports i OutOfMemory at c = tt
told_some seeds imports i (HashCollision held new) at c = (i, at, c)
told_some seeds imports i (IndexerNotAllowed key) at c = absurd c
told_some seeds imports i NotCallable at c = absurd c
told_some seeds imports i (UnknownNumber number count) at c = absurd c

-- the first of some is one of them, and so is each that comes after it
pub first_there : {X : Type 0} (x : X) (xs : List X) → Contains (x ∷ xs) x
first_there x xs = (0, omega arith, refl)

pub later_there : {X : Type 0} (x y : X) (xs : List X) → Contains xs y → Contains (x ∷ xs) y
later_there x y xs at = Contains-append_right (x ∷ []) xs y at

-- one more of them is made
pub made_more : (seeds : Seeds) (made new all : Imports) (name : Bytes) (i : Bytes × List ScriptFuncDef) (now rest : ImportedScripts) → new ≡ made ++ (name, import_of seeds i.1) ∷ [] → name ≡ i.0 → now ≡ i ∷ rest
    → made ++ imports_of seeds now ≡ all → new ++ imports_of seeds rest ≡ all
made_more seeds made new all name i now rest puts named step so_far =
    (λ k. puts k ++ imports_of seeds rest) ∙ append_assoc made ((name, import_of seeds i.1) ∷ []) (imports_of seeds rest)
    ∙ (λ k. made ++ (named k, import_of seeds i.1) ∷ imports_of seeds rest) ∙ sym (ap (λ (is : ImportedScripts). made ++ imports_of seeds is) step) ∙ so_far
