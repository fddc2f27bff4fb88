-- The table of module texts: three lines for each word. What is read of a line is what is written.
use Rattle.std.proofs.Common.{◌≡◌, ℕ, true, false, List, ◌++◌, Option, Some, None, refl, sym, ◌∙◌}
use Rattle.rhd_text.specs.Grammar.{formed}
use Rattle.rhd_text.specs.ReadRows.{keyword_in, form_at, begins_no_part}
use Rattle.rhd_text.proofs.RowLaws.{well_placed, IsSound, LinesAgree, form_agrees, line_by_sound, line_by_complete}
use Rattle.rhd_loader.specs.declared.keyword.ModuleWord.{ModuleWord}
use Rattle.rhd_loader.specs.declared.keyword.ModuleWord.TheVariants.{Var, Fn, Import, Doc, Fault}
use Rattle.rhd_loader.specs.declared.part.ModulePart.{ModulePart}
use Rattle.rhd_loader.specs.Rows.{module_form, all_words, module_forms, anywhere}
use Rattle.rhd_loader.specs.Says.{IsModuleLine}
use Rattle.rhd_loader.specs.Reading.{module_line}

word_placed : (w : ModuleWord) → well_placed (module_form w).operands ≡ true
word_placed Var = refl
word_placed Fn = refl
word_placed Import = refl
word_placed Doc = refl
word_placed Fault = refl

word_found : (w : ModuleWord) → keyword_in module_form all_words (module_form w).spelling ≡ Some w
unfolding keyword_in
word_found Var = refl
word_found Fn = refl
word_found Import = refl
word_found Doc = refl
word_found Fault = refl

word_shows : (w : ModuleWord) (rest : List ℕ) → begins_no_part ((module_form w).spelling ++ rest) ≡ false
word_shows Var rest = refl
word_shows Fn rest = refl
word_shows Import rest = refl
word_shows Doc rest = refl
word_shows Fault rest = refl

module_sound : IsSound ModuleWord ModulePart module_forms
module_sound = record { placed = word_placed; found = word_found; shows = word_shows }

parts_agree : LinesAgree ModulePart (form_at module_forms anywhere) (formed module_forms anywhere)
parts_agree = form_agrees ModuleWord ModulePart module_forms module_sound anywhere

pub line_sound : (l : Option ModulePart) (bytes : List ℕ) → module_line bytes ≡ Some l → IsModuleLine l bytes
line_sound l bytes e = line_by_sound ModulePart (form_at module_forms anywhere) (formed module_forms anywhere) parts_agree l bytes e

pub line_complete : (l : Option ModulePart) (bytes : List ℕ) → IsModuleLine l bytes → module_line bytes ≡ Some l
line_complete l bytes w = line_by_complete ModulePart (form_at module_forms anywhere) (formed module_forms anywhere) parts_agree l bytes w

none_some : (l : Option ModulePart) → None ≡ Some l → ⊥
none_some l e = absurd cc

-- a line that is read as none is none
pub none_sound : (bytes : List ℕ) → module_line bytes ≡ None → (l : Option ModulePart) → IsModuleLine l bytes → ⊥
none_sound bytes e l w = none_some l (sym e ∙ line_complete l bytes w)

none_by : (bytes : List ℕ) (o : Option (Option ModulePart)) → module_line bytes ≡ o → ((l : Option ModulePart) → IsModuleLine l bytes → ⊥) → o ≡ None
none_by bytes None e other = refl
none_by bytes (Some l) e other = absurd (other l (line_sound l bytes e))

pub none_complete : (bytes : List ℕ) → ((l : Option ModulePart) → IsModuleLine l bytes → ⊥) → module_line bytes ≡ None
none_complete bytes other = none_by bytes (module_line bytes) refl other
