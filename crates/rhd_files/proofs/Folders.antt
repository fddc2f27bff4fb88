-- The folder of a path, where its last `/` stands first, at some place, or nowhere.
use Rattle.std.proofs.Common.{◌≡◌, ℕ, ◌+◌, ◌&&◌, ◌==◌, true, false, List, [], ◌∷◌, length, take, codes, refl, sym, ap, ◌∙◌, ne_eqb, length-drop, arith}
use Rattle.std.specs.Prelude.{if◌then◌else◌}
use Rattle.std.proofs.lemmas.Bool.{and_left, cond-false}
use Rattle.rhd_files.specs.Paths.{is_empty, is_absolute, parent, folder}
use Rattle.rhd_files.proofs.Cuts.{Lacks, IsLast, IsCut, before_none, after_none, after_at}

-- the parent of a path whose last `/` is its first byte
pub root : (path back : List ℕ) → IsCut 47 path [] back → codes "/" ≡ parent path
root path back cut = sym (ap (λ (f : List ℕ). if is_empty f && is_absolute path then codes "/" else f) cut.before ∙ ap (λ (p : List ℕ). if is_absolute p then codes "/" else []) cut.whole)

relative : (path : List ℕ) → Lacks 47 path → is_absolute path ≡ false
relative [] none = refl
relative (b ∷ bs) none = and_left (47 == b) true (ne_eqb 47 b (λ e. none 0 (omega arith) (sym e)))

pub no_parent : (path : List ℕ) → Lacks 47 path → [] ≡ parent path
no_parent path none =
    sym (ap (λ (f : List ℕ). if is_empty f && is_absolute path then codes "/" else f) (before_none 47 path none) ∙ cond-false (is_absolute path) (codes "/") [] (relative path none))

pub folder_at : (path : List ℕ) (k : ℕ) → IsLast 47 path k → take (k + 1) path ≡ folder path
folder_at path k last = ap (λ n. take n path) (omega (arith, ap length (after_at 47 path k last), length-drop (k + 1) path, last.within))

pub no_folder : (path : List ℕ) → Lacks 47 path → [] ≡ folder path
no_folder path none = ap (λ n. take n path) {x = 0} (omega (arith, ap length (after_none 47 path none)))
