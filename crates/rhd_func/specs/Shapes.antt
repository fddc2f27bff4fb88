-- The arguments of a call.
use Rattle.std.specs.Prelude.{Bool, true, false, List, ◌∷◌, Option, None, Some}
use Rattle.rhd_value.specs.Tree.{Tree}
use Rattle.rhd_value.specs.declared.tag.Position.{Position}
use Rattle.rhd_func.specs.declared.request.CallShape.{CallShape}
use Rattle.rhd_func.specs.declared.request.CallShape.TheVariants.{Plain, ByRef, Method}
use Rattle.rhd_func.specs.declared.request.CallRequest.{CallRequest}
use Rattle.rhd_func.specs.declared.request.CallRequest.TheVariants.{Named, Qualified}

-- all arguments in order, a first one by reference or an object included
abbrev pub all_args : CallShape → List Tree
all_args (Plain args) = args
all_args (ByRef first args) = first ∷ args
all_args (Method object args) = object ∷ args

-- the first argument by reference, or the object, as given
abbrev pub first_given : CallShape → Option Tree
first_given (Plain args) = None
first_given (ByRef first args) = Some first
first_given (Method object args) = Some object

-- the same of a request
abbrev pub given : CallRequest → Option Tree
given (Named name token native_only shape want pos) = first_given shape
given (Qualified path name shape pos) = first_given shape

abbrev pub pos_of : CallRequest → Position
pos_of (Named name token native_only shape want pos) = pos
pos_of (Qualified path name shape pos) = pos

-- in a call of a function of a module an object counts as a first argument by reference
abbrev pub by_reference : CallShape → CallShape
by_reference (Plain args) = Plain args
by_reference (ByRef first args) = ByRef first args
by_reference (Method object args) = ByRef object args

-- whether it is the call of a method, with an object
abbrev pub is_method_shape : CallShape → Bool
is_method_shape (Plain args) = false
is_method_shape (ByRef first args) = false
is_method_shape (Method object args) = true
