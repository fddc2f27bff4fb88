-- How a request goes on.
use Rattle.std.specs.Prelude.{Bool, true, false, List, Option, None}
use Rattle.rhd_value.specs.Tree.{Bytes, Tree}
use Rattle.rhd_value.specs.declared.tag.Position.{Position}
use Rattle.rhd_value.specs.declared.tag.TypeTag.{TypeTag}
use Rattle.rhd_names.specs.declared.token.OpToken.{OpToken}
use Rattle.rhd_func.specs.declared.request.CallShape.{CallShape}
use Rattle.rhd_func.specs.declared.request.CallRequest.{CallRequest}
use Rattle.rhd_func.specs.declared.request.CallRequest.TheVariants.{Named, Qualified}
use Rattle.rhd_func.specs.Shapes.{first_given, by_reference}

-- where a call looks for its function
pub data Search : Type 0 where
  by_name : Option OpToken → Bool → Search  -- unqualified: the token, and whether natives alone are meant
  in_module : List Bytes → Search  -- qualified: the path

abbrev pub is_unqualified : Search → Bool
is_unqualified (by_name token native_only) = true
is_unqualified (in_module path) = false

abbrev pub token_in : Search → Option OpToken
token_in (by_name token native_only) = token
token_in (in_module path) = None

abbrev pub only_natives : Search → Bool
only_natives (by_name token native_only) = native_only
only_natives (in_module path) = false

-- whether the host isn't asked where no function is found: it is asked in an unqualified call that allows scripts
abbrev pub without_host : Search → Bool
without_host (by_name token native_only) = native_only
without_host (in_module path) = true

-- a call of one function
pub record Plan : Type 0 where
  pub name : Bytes
  pub search : Search
  pub shape : CallShape
  pub want : Option TypeTag
  pub pos : Position
  pub given : Option Tree  -- the first argument by reference, or the object, as given

abbrev pub plan_of : CallRequest → Plan
plan_of (Named name token native_only shape want pos) = record { name = name; search = by_name token native_only; shape = shape; want = want; pos = pos; given = first_given shape }
plan_of (Qualified path name shape pos) = record { name = name; search = in_module path; shape = by_reference shape; want = None; pos = pos; given = first_given shape }
