-- What an access and a namespace say.
use Rattle.std.specs.Prelude.{Bool, true, false}
use Rattle.rhd_func.specs.declared.access.FnAccess.{FnAccess}
use Rattle.rhd_func.specs.declared.access.FnAccess.TheVariants.{Private, Public}
use Rattle.rhd_func.specs.declared.access.FnNamespace.{FnNamespace}
use Rattle.rhd_func.specs.declared.access.FnNamespace.TheVariants.{Internal, Global}

abbrev pub is_private : FnAccess → Bool
is_private Private = true
is_private Public = false

abbrev pub is_public : FnAccess → Bool
is_public Private = false
is_public Public = true

-- found under the name of its module alone
abbrev pub is_module_namespace : FnNamespace → Bool
is_module_namespace Internal = true
is_module_namespace Global = false

-- found without the name of its module too
abbrev pub is_global_namespace : FnNamespace → Bool
is_global_namespace Internal = false
is_global_namespace Global = true
