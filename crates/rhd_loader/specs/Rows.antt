-- THE TABLE: each line of a module text, how it begins, its operands, and what it says.
use Rattle.std.specs.Prelude.{List, [], ◌∷◌, Some, codes}
use Rattle.std.specs.Option.{option_map}
use Rattle.rhd_text.specs.declared.place.Place.{Place}
use Rattle.rhd_text.specs.Rows.{WORD, WORDS, VALUE, Form, Table, from_then, script_operands, as_script}
use Rattle.rhd_loader.specs.declared.keyword.ModuleWord.{ModuleWord}
use Rattle.rhd_loader.specs.declared.keyword.ModuleWord.TheVariants as words
use Rattle.rhd_loader.specs.declared.part.ModulePart.{ModulePart}
use Rattle.rhd_loader.specs.declared.part.ModulePart.TheVariants as parts

-- THE ROWS: a value under some names, a function, a function of an imported module, the documentation, and a fault
abbrev pub module_form : ModuleWord → Form ModulePart
module_form words.Var = record { spelling = codes "var"; operands = WORDS ∷ VALUE ∷ []; part = λ place aliases t. Some (parts.Var aliases t) }
module_form words.Fn = record { spelling = codes "fn"; operands = script_operands; part = λ place. from_then script_operands as_script (option_map (λ def. parts.Fn def)) }
module_form words.Import = record { spelling = codes "import"; operands = WORD ∷ script_operands; part = λ place name. from_then script_operands as_script (option_map (λ def. parts.Import name def)) }
module_form words.Doc = record { spelling = codes "doc"; operands = WORD ∷ []; part = λ place text. Some (parts.Doc text) }
module_form words.Fault = record { spelling = codes "fault"; operands = WORD ∷ []; part = λ place text. Some (parts.Fault text) }

-- all words, the more frequent ones first
abbrev pub all_words : List ModuleWord
all_words = words.Fn ∷ words.Import ∷ words.Var ∷ words.Doc ∷ words.Fault ∷ []

-- THE LINES OF A MODULE TEXT
abbrev pub module_forms : Table ModuleWord ModulePart
module_forms = record { form = module_form; all = all_words }

-- no row depends on the place of its line, so one place serves all
abbrev pub anywhere : Place
anywhere = record { line = 0 }
