-- How the logic stores the functions of imported modules.
use Rattle.std.specs.Coded.{Coded, coded×, coded_list}
use Rattle.rhd_value.specs.Codes.{coded_bytes}
use Rattle.rhd_func.specs.contracts.func.ScriptFuncDef as script
use Rattle.rhd_loader.specs.Imports.{ImportedScripts}

abbrev pub coded_imports : Coded ImportedScripts
coded_imports = coded_list (coded× coded_bytes (coded_list script.the_row.coded))
