-- Faults as plain data, one constructor for each number.
use Rattle.std.specs.Prelude.{ℕ, ◌+◌}
use Rattle.std.specs.Coded.{Coded}
use Rattle.std.proofs.Common.{◌≡◌, ap, arith}
use base.Stored.{Gv, gnum, gcons}
use Rattle.rhd_value.specs.declared.fault.ParseErrorType.{ParseErrorType}
use Rattle.rhd_value.specs.declared.tag.Position.{Position}
use Rattle.rhd_value.specs.contracts.fault.ParseErrorType as parse
use Rattle.rhd_value.specs.contracts.tag.Position as position
use Rattle.rhd_value.specs.Tree.{Bytes}
use Rattle.rhd_value.specs.Codes.{head, tail, apart, coded_bytes}

pub data Fault : Type 0 where
  function_not_found : Bytes → Position → Fault
  dot_expr : Bytes → Position → Fault
  indexing_type : Bytes → Position → Fault
  parsing : ParseErrorType → Position → Fault
  non_pure : Bytes → Position → Fault
  data_race : Bytes → Position → Fault
  mismatch_output : Bytes → Bytes → Position → Fault
  mismatch_data : Bytes → Bytes → Position → Fault
  too_many_operations : Position → Fault
  stack_overflow : Position → Fault
  data_too_large : Bytes → Position → Fault
  module_not_found : Bytes → Position → Fault
  in_module : Bytes → Fault → Position → Fault
  runtime : Bytes → Position → Fault

-- how many faults stand inside
abbrev pub layers : Fault → ℕ
layers (function_not_found a b) = 0
layers (dot_expr a b) = 0
layers (indexing_type a b) = 0
layers (parsing a b) = 0
layers (non_pure a b) = 0
layers (data_race a b) = 0
layers (mismatch_output a b c) = 0
layers (mismatch_data a b c) = 0
layers (too_many_operations a) = 0
layers (stack_overflow a) = 0
layers (data_too_large a b) = 0
layers (module_not_found a b) = 0
layers (in_module a b c) = layers b + 1
layers (runtime a b) = 0

abbrev coded_parse : Coded ParseErrorType
coded_parse = parse.the_row.coded

abbrev coded_position : Coded Position
coded_position = position.the_row.coded

-- how the logic stores a fault
abbrev fault_code : Fault → Gv
fault_code (function_not_found a b) = gcons (gnum 1) (gcons (coded_bytes.code a) (coded_position.code b))
fault_code (dot_expr a b) = gcons (gnum 2) (gcons (coded_bytes.code a) (coded_position.code b))
fault_code (indexing_type a b) = gcons (gnum 3) (gcons (coded_bytes.code a) (coded_position.code b))
fault_code (parsing a b) = gcons (gnum 4) (gcons (coded_parse.code a) (coded_position.code b))
fault_code (non_pure a b) = gcons (gnum 5) (gcons (coded_bytes.code a) (coded_position.code b))
fault_code (data_race a b) = gcons (gnum 6) (gcons (coded_bytes.code a) (coded_position.code b))
fault_code (mismatch_output a b c) = gcons (gnum 7) (gcons (coded_bytes.code a) (gcons (coded_bytes.code b) (coded_position.code c)))
fault_code (mismatch_data a b c) = gcons (gnum 8) (gcons (coded_bytes.code a) (gcons (coded_bytes.code b) (coded_position.code c)))
fault_code (too_many_operations a) = gcons (gnum 9) (coded_position.code a)
fault_code (stack_overflow a) = gcons (gnum 10) (coded_position.code a)
fault_code (data_too_large a b) = gcons (gnum 11) (gcons (coded_bytes.code a) (coded_position.code b))
fault_code (module_not_found a b) = gcons (gnum 12) (gcons (coded_bytes.code a) (coded_position.code b))
fault_code (in_module a b c) = gcons (gnum 13) (gcons (coded_bytes.code a) (gcons (fault_code b) (coded_position.code c)))
fault_code (runtime a b) = gcons (gnum 15) (gcons (coded_bytes.code a) (coded_position.code b))

-- the number of a fault
abbrev pub number_of : Fault → ℕ
number_of (function_not_found a b) = 1
number_of (dot_expr a b) = 2
number_of (indexing_type a b) = 3
number_of (parsing a b) = 4
number_of (non_pure a b) = 5
number_of (data_race a b) = 6
number_of (mismatch_output a b c) = 7
number_of (mismatch_data a b c) = 8
number_of (too_many_operations a) = 9
number_of (stack_overflow a) = 10
number_of (data_too_large a b) = 11
number_of (module_not_found a b) = 12
number_of (in_module a b c) = 13
number_of (runtime a b) = 15

pub fault_inj : (x y : Fault) → fault_code x ≡ fault_code y → x ≡ y
fault_inj (function_not_found a b) (function_not_found a' b') q = λ i. function_not_found (coded_bytes.inj a a' (ap (λ g. head (tail g)) q) i) (coded_position.inj b b' (ap (λ g. tail (tail g)) q) i)
fault_inj (dot_expr a b) (dot_expr a' b') q = λ i. dot_expr (coded_bytes.inj a a' (ap (λ g. head (tail g)) q) i) (coded_position.inj b b' (ap (λ g. tail (tail g)) q) i)
fault_inj (indexing_type a b) (indexing_type a' b') q = λ i. indexing_type (coded_bytes.inj a a' (ap (λ g. head (tail g)) q) i) (coded_position.inj b b' (ap (λ g. tail (tail g)) q) i)
fault_inj (parsing a b) (parsing a' b') q = λ i. parsing (coded_parse.inj a a' (ap (λ g. head (tail g)) q) i) (coded_position.inj b b' (ap (λ g. tail (tail g)) q) i)
fault_inj (non_pure a b) (non_pure a' b') q = λ i. non_pure (coded_bytes.inj a a' (ap (λ g. head (tail g)) q) i) (coded_position.inj b b' (ap (λ g. tail (tail g)) q) i)
fault_inj (data_race a b) (data_race a' b') q = λ i. data_race (coded_bytes.inj a a' (ap (λ g. head (tail g)) q) i) (coded_position.inj b b' (ap (λ g. tail (tail g)) q) i)
fault_inj (mismatch_output a b c) (mismatch_output a' b' c') q = λ i. mismatch_output (coded_bytes.inj a a' (ap (λ g. head (tail g)) q) i) (coded_bytes.inj b b' (ap (λ g. head (tail (tail g))) q) i) (coded_position.inj c c' (ap (λ g. tail (tail (tail g))) q) i)
fault_inj (mismatch_data a b c) (mismatch_data a' b' c') q = λ i. mismatch_data (coded_bytes.inj a a' (ap (λ g. head (tail g)) q) i) (coded_bytes.inj b b' (ap (λ g. head (tail (tail g))) q) i) (coded_position.inj c c' (ap (λ g. tail (tail (tail g))) q) i)
fault_inj (too_many_operations a) (too_many_operations a') q = λ i. too_many_operations (coded_position.inj a a' (ap (λ g. tail g) q) i)
fault_inj (stack_overflow a) (stack_overflow a') q = λ i. stack_overflow (coded_position.inj a a' (ap (λ g. tail g) q) i)
fault_inj (data_too_large a b) (data_too_large a' b') q = λ i. data_too_large (coded_bytes.inj a a' (ap (λ g. head (tail g)) q) i) (coded_position.inj b b' (ap (λ g. tail (tail g)) q) i)
fault_inj (module_not_found a b) (module_not_found a' b') q = λ i. module_not_found (coded_bytes.inj a a' (ap (λ g. head (tail g)) q) i) (coded_position.inj b b' (ap (λ g. tail (tail g)) q) i)
fault_inj (in_module a b c) (in_module a' b' c') q = λ i. in_module (coded_bytes.inj a a' (ap (λ g. head (tail g)) q) i) (fault_inj b b' (ap (λ g. head (tail (tail g))) q) i) (coded_position.inj c c' (ap (λ g. tail (tail (tail g))) q) i)
fault_inj (runtime a b) (runtime a' b') q = λ i. runtime (coded_bytes.inj a a' (ap (λ g. head (tail g)) q) i) (coded_position.inj b b' (ap (λ g. tail (tail g)) q) i)
fault_inj x y p = absurd (apart (number_of x) (number_of y) p (omega arith))

abbrev pub coded_fault : Coded Fault
coded_fault = record { code = fault_code; inj = fault_inj }
