-- The fault of a call whose function isn't found.
use Rattle.std.specs.Prelude.{ℕ, List, [], ◌∷◌, ◌++◌, length, map, drop, nat_eq, if◌then◌else◌, codes, decimal}
use Rattle.std.specs.List.{starts_with, join_by}
use Rattle.rhd_value.specs.Tree.{Bytes, Tree}
use Rattle.rhd_value.specs.Same.{text_eq}
use Rattle.rhd_value.specs.declared.tag.Position.{Position}
use Rattle.rhd_value.specs.declared.fault.EvalAltResult.{EvalAltResult}
use Rattle.rhd_value.specs.declared.fault.EvalAltResult.TheVariants.{ErrorFunctionNotFound, ErrorDotExpr, ErrorIndexingType, ErrorParsing}
use Rattle.rhd_value.specs.declared.fault.ParseErrorType.TheVariants.{MalformedIndexExpr}
use Rattle.rhd_engine.specs.Engine.{EngineLists}
use Rattle.rhd_engine.specs.Display.{display, signature}

-- a call with another number of arguments than it should have
abbrev pub wrong_number : Position → List Bytes → Bytes → ℕ → EvalAltResult
wrong_number pos types what should = ErrorParsing (MalformedIndexExpr (codes "System error: " ++ decimal (length types) ++ codes " argument(s) found for " ++ what ++ codes " (should be " ++ decimal should ++ codes ")")) pos

-- the indexers, by the display types of all arguments
abbrev pub get_index : Position → List Bytes → EvalAltResult
get_index pos (t0 ∷ t1 ∷ []) = ErrorIndexingType (t0 ++ codes " [" ++ t1 ++ codes "]") pos
get_index pos types = wrong_number pos types (codes "indexer") 2

abbrev pub set_index : Position → List Bytes → EvalAltResult
set_index pos (t0 ∷ t1 ∷ t2 ∷ []) = ErrorIndexingType (t0 ++ codes " [" ++ t1 ++ codes "] = " ++ t2) pos
set_index pos types = wrong_number pos types (codes "index setter") 3

-- the getter and the setter of a property p
abbrev pub get_property : Position → Bytes → List Bytes → EvalAltResult
get_property pos p (t0 ∷ []) = ErrorDotExpr (codes "Unknown property '" ++ p ++ codes "' - a getter is not registered for type '" ++ t0 ++ codes "'") pos
get_property pos p types = wrong_number pos types (codes "property getter '" ++ p ++ codes "'") 1

abbrev pub set_property : Position → Bytes → List Bytes → EvalAltResult
set_property pos p (t0 ∷ t1 ∷ []) = ErrorDotExpr (codes "No writable property '" ++ p ++ codes "' - a setter is not registered for type '" ++ t0 ++ codes "' to handle '" ++ t1 ++ codes "'") pos
set_property pos p types = wrong_number pos types (codes "property setter '" ++ p ++ codes "'") 2

-- an unqualified call, by its name; the name of a property may be empty
unfoldable pub not_found : EngineLists → Position → Bytes → List Tree → EvalAltResult
not_found e pos name args =
    let types = map (display e) args in
    if text_eq name (codes "index$get$") then get_index pos types
    else if text_eq name (codes "index$set$") then set_index pos types
    else if starts_with nat_eq name (codes "get$") then get_property pos (drop 4 name) types
    else if starts_with nat_eq name (codes "set$") then set_property pos (drop 4 name) types
    else ErrorFunctionNotFound (signature e name args) pos

-- the names of a path, as a text shows them
abbrev pub path_text : List Bytes → Bytes
path_text path = join_by (λ name. name) (codes "::") path

-- a qualified call, by its path and name
unfoldable pub not_found_in : EngineLists → List Bytes → Position → Bytes → List Tree → EvalAltResult
not_found_in e path pos name args = ErrorFunctionNotFound (path_text path ++ codes "::" ++ signature e name args) pos
