-- What a read and a loader gave.
use Rattle.std.proofs.Common.{◌≡◌, ◌⊎◌, inl, inr, ℕ, List, None, Some, IsSome, Err, refl, ◌∙◌}
use Rattle.std.specs.Prelude.{Result}
use Rattle.rhd_value.specs.Tree.{Bytes}
use Rattle.rhd_value.specs.declared.tag.Position.{Position}
use Rattle.rhd_files.specs.declared.files.FileAnswer.{FileAnswer}
use Rattle.rhd_files.specs.declared.files.FileAnswer.TheVariants.{Found}
use Rattle.rhd_files.specs.Files.{Reads, Rose, found, no_file, failed, at_path}
use Rattle.rhd_resolve.specs.declared.fault.ResolveFault.{ResolveFault}
use Rattle.rhd_resolve.specs.declared.fault.ResolveFault.TheVariants as refusal
use Rattle.rhd_resolve.specs.declared.loaded.LoadedScript.{LoadedScript}
use Rattle.rhd_resolve.specs.Asked.{Asked, IsSaid}
use Rattle.rhd_resolve.specs.File.{FileState, FileLoads, AllowsLoad, file_of}
use Rattle.rhd_resolve.specs.File as file
use Rattle.rhd_resolve.specs.Faults.{not_found, in_module}

-- the text that was found is the one at the path, and no read failed
pub found_is : (texts : List (Bytes × Bytes)) (before after : ℕ) (path : Bytes) (a : FileAnswer) (text : Bytes) → Reads texts before after path a → a ≡ Found text → (at_path path texts ≡ Some text) × (after ≡ before)
found_is texts before after path a text (found h same) e = (h ∙ cc, same)
found_is texts before after path a text (no_file h same) e = absurd (cc)
found_is texts before after path a text (failed h r) e = absurd (cc)

-- where no text was found, there is none, or the read failed
pub none_read : (texts : List (Bytes × Bytes)) (before after : ℕ) (path : Bytes) (a : FileAnswer) → Reads texts before after path a → ((text : Bytes) → a ≡ Found text → ⊥)
    → ((at_path path texts ≡ None) × (after ≡ before)) ⊎ (IsSome (at_path path texts) × Rose before after)
none_read texts before after path a (found {text = text} h same) other = absurd (other text refl)
none_read texts before after path a (no_file h same) other = inl (h, same)
none_read texts before after path a (failed h r) other = inr (h, r)

-- then the fault is 12
pub no_text : (load : AllowsLoad) (old new : FileState) (a : Asked) (r : Result LoadedScript ResolveFault) → ((at_path (file_of old a) old.texts ≡ None) × (new.faults ≡ old.faults)) ⊎ (IsSome (at_path (file_of old a) old.texts) × Rose old.faults new.faults)
    → r ≡ Err (not_found a.path a.pos) → FileLoads load old a r new
no_text load old new a r (inl h) e = file.no_file h.0 h.1 e
no_text load old new a r (inr h) e = file.failed h.0 h.1 e

-- what isn't free of a fault that carries another isn't of this one
pub said_in_module : (A B : Type 0) (f : ResolveFault) (path : Bytes) (pos : Position) → IsSaid {A = A} (Err (in_module f path pos)) → IsSaid {A = B} (Err f)
said_in_module A B (refusal.Fault f) path pos h = tt
said_in_module A B (refusal.HashCollision held new) path pos h = tt
said_in_module A B refusal.OutOfMemory path pos h = absurd h
