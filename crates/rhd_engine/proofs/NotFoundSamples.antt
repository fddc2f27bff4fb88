-- The fault of a call that isn't found, of each row once.
use Rattle.std.proofs.Common.{◌≡◌, true, [], ◌∷◌, refl}
use Rattle.std.specs.Prelude.{codes}
use Rattle.std.specs.Fmt.{digits}
use Rattle.rhd_value.specs.Tree.{Tree, unit, boolean, text}
use Rattle.rhd_value.specs.Kinds.{plain}
use Rattle.rhd_value.specs.declared.tag.Position.{Position}
use Rattle.rhd_value.specs.declared.fault.EvalAltResult.TheVariants.{ErrorFunctionNotFound, ErrorDotExpr, ErrorIndexingType, ErrorParsing}
use Rattle.rhd_value.specs.declared.fault.ParseErrorType.TheVariants.{MalformedIndexExpr}
use Rattle.rhd_engine.specs.Engine.{EngineLists}
use Rattle.rhd_engine.specs.Display.{map_type_name}
use Rattle.rhd_engine.specs.NotFound.{not_found}

-- values of three types
abbrev nothing : Tree
nothing = plain unit

abbrev truth : Tree
truth = plain (boolean true)

abbrev word : Tree
word = plain (text (codes "a"))

index_is_got : (e : EngineLists) (pos : Position) → not_found e pos (codes "index$get$") (truth ∷ word ∷ []) ≡ ErrorIndexingType (codes "bool [string]") pos
unfolding not_found map_type_name
index_is_got e pos = refl

index_is_got_of_one : (e : EngineLists) (pos : Position) → not_found e pos (codes "index$get$") (truth ∷ []) ≡ ErrorParsing (MalformedIndexExpr (codes "System error: 1 argument(s) found for indexer (should be 2)")) pos
unfolding not_found map_type_name digits
index_is_got_of_one e pos = refl

index_is_set : (e : EngineLists) (pos : Position) → not_found e pos (codes "index$set$") (truth ∷ word ∷ nothing ∷ []) ≡ ErrorIndexingType (codes "bool [string] = ()") pos
unfolding not_found map_type_name
index_is_set e pos = refl

index_is_set_of_none : (e : EngineLists) (pos : Position) → not_found e pos (codes "index$set$") [] ≡ ErrorParsing (MalformedIndexExpr (codes "System error: 0 argument(s) found for index setter (should be 3)")) pos
unfolding not_found map_type_name digits
index_is_set_of_none e pos = refl

property_is_got : (e : EngineLists) (pos : Position) → not_found e pos (codes "get$x") (word ∷ []) ≡ ErrorDotExpr (codes "Unknown property 'x' - a getter is not registered for type 'string'") pos
unfolding not_found map_type_name
property_is_got e pos = refl

property_is_got_of_two : (e : EngineLists) (pos : Position) → not_found e pos (codes "get$x") (word ∷ truth ∷ []) ≡ ErrorParsing (MalformedIndexExpr (codes "System error: 2 argument(s) found for property getter 'x' (should be 1)")) pos
unfolding not_found map_type_name digits
property_is_got_of_two e pos = refl

-- the name of a property may be empty
property_is_set : (e : EngineLists) (pos : Position) → not_found e pos (codes "set$") (truth ∷ word ∷ []) ≡ ErrorDotExpr (codes "No writable property '' - a setter is not registered for type 'bool' to handle 'string'") pos
unfolding not_found map_type_name
property_is_set e pos = refl

property_is_set_of_one : (e : EngineLists) (pos : Position) → not_found e pos (codes "set$x") (truth ∷ []) ≡ ErrorParsing (MalformedIndexExpr (codes "System error: 1 argument(s) found for property setter 'x' (should be 2)")) pos
unfolding not_found map_type_name digits
property_is_set_of_one e pos = refl

function_is_called : (e : EngineLists) (pos : Position) → not_found e pos (codes "get") (word ∷ nothing ∷ []) ≡ ErrorFunctionNotFound (codes "get (&str | ImmutableString | String, ())") pos
unfolding not_found map_type_name
function_is_called e pos = refl
