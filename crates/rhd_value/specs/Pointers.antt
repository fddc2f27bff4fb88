-- Pointers to functions: which names are anonymous, and how a pointer is shown.
use Rattle.std.specs.Prelude.{Bool, ◌++◌, codes, nat_eq}
use Rattle.std.specs.List.{starts_with}
use Rattle.rhd_value.specs.declared.tag.FnPtrType.{FnPtrType}
use Rattle.rhd_value.specs.declared.tag.FnPtrType.TheVariants.{Normal, Script, Native}
use Rattle.rhd_value.specs.Tree.{Bytes}

-- the name begins with `anon$`
abbrev pub is_anonymous_name : Bytes → Bool
is_anonymous_name name = starts_with nat_eq name (codes "anon$")

-- how a pointer to a function of this name is shown
abbrev pub shown_pointer : Bytes → Bytes
shown_pointer name = codes "Fn(" ++ name ++ codes ")"

-- how a pointer's type is shown
abbrev pub shown_type : FnPtrType → Bytes
shown_type Normal = codes "Fn"
shown_type (Script num_params) = codes "Fn*"
shown_type (Native id) = codes "Fn#"
