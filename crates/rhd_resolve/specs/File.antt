-- What the file resolver gives.
use Rattle.std.specs.Prelude.{◌≡◌, ℕ, ◌≤◌, List, [], ◌∷◌, Option, Some, None, Result, Ok, Err, IsSome, codes}
use Rattle.std.specs.Option.{option_map}
use Rattle.rhd_value.specs.Tree.{Bytes}
use Rattle.rhd_files.specs.Files.{at_path, Rose}
use Rattle.rhd_files.specs.Paths.{file_path, parent}
use Rattle.rhd_decl.specs.declared.fault.DeclFault.TheVariants as decl
use Rattle.rhd_manifest.specs.Manifest.{ManifestLists}
use Rattle.rhd_module.specs.Tree.{ModuleTree}
use Rattle.rhd_resolve.specs.declared.fault.ResolveFault.{ResolveFault}
use Rattle.rhd_resolve.specs.declared.fault.ResolveFault.TheVariants as refusal
use Rattle.rhd_resolve.specs.declared.file.FileModuleResolver.{FileModuleResolver}
use Rattle.rhd_resolve.specs.declared.loaded.LoadedScript.{LoadedScript}
use Rattle.rhd_resolve.specs.Asked.{Asked}
use Rattle.rhd_resolve.specs.Environs.{Envs}
use Rattle.rhd_resolve.specs.Faults.{not_found, in_module}
use Rattle.rhd_resolve.specs.Loading.{Loads}

-- the extension that a file has where no other is set
abbrev pub script_extension : Bytes
script_extension = codes "rhai"

-- the settings of a file resolver, and its files: the text at each path, and how many reads failed
pub record FileState : Type 0 where
  pub base_path : Option Bytes
  pub extension : Bytes
  pub texts : List (Bytes × Bytes)
  pub faults : ℕ

abbrev pub file_state : {F L : Type 0} → (F → List (Bytes × Bytes)) → (F → ℕ) → FileModuleResolver F L → FileState
file_state texts faults it = record { base_path = it.base_path; extension = it.extension; texts = texts it.files; faults = faults it.files }

-- the path of the file: in the base path, else in the folder in which the source that asks stands
abbrev pub file_of : FileState → Asked → Bytes
file_of it a = file_path a.path it.base_path (option_map parent a.source) it.extension

-- which answers a loader may have
abbrev pub AllowsLoad : Type 1
AllowsLoad = List ManifestLists → Bytes → Envs → Result LoadedScript ResolveFault → Type 0

-- a read leaves all but the count of faults, which doesn't fall
pub record OnlyRead (old new : FileState) : Type 0 where
  pub same : new ≡ record old { faults = new.faults }
  pub rises : old.faults ≤ new.faults

-- The script of the file, its source set to the path, or why there is none: no file and a failed read give fault 12, and a fault of the loader fault 13. No read fails but that one.
pub data FileLoads (load : AllowsLoad) (old : FileState) (a : Asked) (r : Result LoadedScript ResolveFault) (new : FileState) : Type 0 where
  no_file : at_path (file_of old a) old.texts ≡ None → new.faults ≡ old.faults → r ≡ Err (not_found a.path a.pos) → FileLoads load old a r new
  failed : IsSome (at_path (file_of old a) old.texts) → Rose old.faults new.faults → r ≡ Err (not_found a.path a.pos) → FileLoads load old a r new
  refused : (text : Bytes) (f : ResolveFault) → at_path (file_of old a) old.texts ≡ Some text → new.faults ≡ old.faults → load a.manifests text a.envs (Err f) → r ≡ Err (in_module f a.path a.pos) → FileLoads load old a r new
  loaded : (text : Bytes) (l : LoadedScript) → at_path (file_of old a) old.texts ≡ Some text → new.faults ≡ old.faults → load a.manifests text a.envs (Ok l) → r ≡ Ok (record l { source = Some a.path }) → FileLoads load old a r new

-- what making the module of a script answers, and the environments that it leaves: what `eval_ast_as_new` does, or nothing for want of memory
abbrev pub Makes : LoadedScript → Envs → Result ModuleTree ResolveFault → Envs → Type 0
Makes l old (Ok m) new = Loads l old (Ok m) new
Makes l old (Err (refusal.HashCollision held other)) new = Loads l old (Err (decl.HashCollision held other)) new
Makes l old (Err refusal.OutOfMemory) new = new ≡ old
Makes l old (Err (refusal.Fault f)) new = ⊥

-- the script of the file is taken, and its module made
pub data FileResolves (load : AllowsLoad) (old : FileState) (a : Asked) (r : Result ModuleTree ResolveFault) (e : Envs) (new : FileState) : Type 0 where
  gives_none : (f : ResolveFault) → FileLoads load old a (Err f) new → OnlyRead old new → r ≡ Err f → e ≡ a.envs → FileResolves load old a r e new
  makes : (l : LoadedScript) → FileLoads load old a (Ok l) new → OnlyRead old new → Makes l a.envs r e → FileResolves load old a r e new

-- the relations of the trait: the state is the count of faults
pub data FileAllows (load : AllowsLoad) (old : FileState) (a : Asked) (r : Result ModuleTree ResolveFault) (e : Envs) (t : List ℕ) : Type 0 where
  file_allows : (new : FileState) → FileResolves load old a r e new → t ≡ new.faults ∷ [] → FileAllows load old a r e t

pub data FileScripts (load : AllowsLoad) (old : FileState) (a : Asked) (r : Option (Result LoadedScript ResolveFault)) (t : List ℕ) : Type 0 where
  file_script : (s : Result LoadedScript ResolveFault) (new : FileState) → r ≡ Some s → FileLoads load old a s new → OnlyRead old new → t ≡ new.faults ∷ [] → FileScripts load old a r t
