-- Each kind of operand: what is read is what is written.
use Rattle.std.proofs.Common.{ℕ, List, Bool, true, false, cond, ◌≡◌, Some, None, refl}
use Rattle.rhd_value.specs.declared.tag.TypeTag.{TypeTag}
use Rattle.rhd_syntax.specs.declared.printers.Printer.{Printer}
use Rattle.rhd_syntax.specs.Bytes.{num_of, value_kind_of, printer_of}
use Rattle.rhd_text.specs.Rows.{Operand, NAME, WORD, WORDS, NUM, LONG, ARG, ARGS, OPTIONAL, WANT, THIS, PURITY, VALUE, KIND, KINDS, PRINTER, Meaning}
use Rattle.rhd_syntax.specs.Spans.{bare, name, number, value_kind, printer}
use Rattle.rhd_text.specs.Grammar.{operand}
use Rattle.rhd_syntax.specs.Reading.{comes, word_at, wording_at, name_at, num_at, value_kind_at, printer_at}
use Rattle.rhd_text.specs.ReadRows.{operand_at}
use Rattle.rhd_syntax.proofs.Agrees.{Agrees}
use Rattle.rhd_syntax.proofs.WordLaws.{bare_agrees, meaning_agrees}
use Rattle.rhd_syntax.proofs.QuoteLaws.{word_agrees, words_agree}
use Rattle.rhd_syntax.proofs.FlagLaws.{flag_read}
use Rattle.rhd_syntax.proofs.WantLaws.{no_colon, colon_absent, want_agrees}
use Rattle.rhd_syntax.proofs.ObjectLaws.{this_sound}
use Rattle.rhd_syntax.proofs.PurityLaws.{purity_sound}
use Rattle.rhd_syntax.proofs.ParamLaws.{kinds_agree}
use Rattle.rhd_syntax.proofs.ValueLaws.{value_agrees}
use Rattle.rhd_syntax.proofs.ArgumentLaws.{argument_agrees, arguments_agree}

name_sound : (b : Bool) (s bytes rest : List ℕ) → comes 58 bytes ≡ b → cond b None (wording_at bytes) ≡ Some (s, rest) → name s bytes rest
name_sound true s bytes rest h e = absurd cc
name_sound false s bytes rest h e = (word_agrees.sound s bytes rest e, colon_absent bytes h)

pub name_agrees : Agrees (List ℕ) name_at name
unfolding name_at
name_agrees = record {
  sound = λ s bytes rest e. name_sound (comes 58 bytes) s bytes rest refl e;
  complete = λ s bytes rest w. rw (no_colon (comes 58 bytes) bytes refl w.1) (word_agrees.complete s bytes rest w.0);
}

pub value_kind_agrees : Agrees TypeTag value_kind_at value_kind
unfolding value_kind_at
value_kind_agrees = meaning_agrees TypeTag value_kind_of word_at bare bare_agrees

pub printer_agrees : Agrees Printer printer_at printer
unfolding printer_at
printer_agrees = meaning_agrees Printer printer_of word_at bare bare_agrees

pub number_agrees : (bits : ℕ) → Agrees ℕ (num_at bits) (number bits)
unfolding num_at
number_agrees bits = meaning_agrees ℕ (num_of bits) word_at bare bare_agrees

pub operand_sound : (o : Operand) (x : Meaning o) (bytes rest : List ℕ) → operand_at o bytes ≡ Some (x, rest) → operand o x bytes rest
operand_sound NAME = name_agrees.sound
operand_sound WORD = word_agrees.sound
operand_sound WORDS = words_agree.sound
operand_sound NUM = (number_agrees 32).sound
operand_sound LONG = (number_agrees 64).sound
operand_sound (ARG given) = (argument_agrees given).sound
operand_sound (ARGS given) = (arguments_agree given).sound
operand_sound (OPTIONAL w) = λ x bytes rest e. flag_read w bytes rest x e
operand_sound WANT = want_agrees.sound
operand_sound THIS = this_sound
operand_sound PURITY = purity_sound
operand_sound VALUE = value_agrees.sound
operand_sound KIND = value_kind_agrees.sound
operand_sound KINDS = kinds_agree.sound
operand_sound PRINTER = printer_agrees.sound
