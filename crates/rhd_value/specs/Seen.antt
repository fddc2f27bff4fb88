-- The plain data of a fault, what is inside it being plain already.
use Rattle.rhd_value.specs.declared.fault.EvalAltResult.{EvalAltResult}
use Rattle.rhd_value.specs.declared.fault.EvalAltResult.TheVariants as faults
use Rattle.rhd_value.specs.Fault.{Fault, function_not_found, dot_expr, indexing_type, parsing, non_pure, data_race, mismatch_output, mismatch_data, too_many_operations, stack_overflow, data_too_large, module_not_found, in_module, runtime}

-- a fault as contracts see it inside another one
abbrev pub fault_seen : EvalAltResult → Fault
fault_seen (faults.ErrorFunctionNotFound a b) = function_not_found a b
fault_seen (faults.ErrorDotExpr a b) = dot_expr a b
fault_seen (faults.ErrorIndexingType a b) = indexing_type a b
fault_seen (faults.ErrorParsing a b) = parsing a b
fault_seen (faults.ErrorNonPureMethodCallOnConstant a b) = non_pure a b
fault_seen (faults.ErrorDataRace a b) = data_race a b
fault_seen (faults.ErrorMismatchOutputType a b c) = mismatch_output a b c
fault_seen (faults.ErrorMismatchDataType a b c) = mismatch_data a b c
fault_seen (faults.ErrorTooManyOperations a) = too_many_operations a
fault_seen (faults.ErrorStackOverflow a) = stack_overflow a
fault_seen (faults.ErrorDataTooLarge a b) = data_too_large a b
fault_seen (faults.ErrorModuleNotFound a b) = module_not_found a b
fault_seen (faults.ErrorInModule a b c) = in_module a b c
fault_seen (faults.ErrorRuntime a b) = runtime a b
