-- A function that a manifest lists, as a declaration under its key.
use Rattle.std.specs.Prelude.{ℕ, Bool, List, [], length, refl, Option, None}
use Rattle.std.specs.Option.{option_map_or}
use Rattle.std.specs.Coded.{Coded, code_by, coded×, coded_ℕ, coded_bool, coded_list}
use Rattle.rhd_value.specs.Tree.{Bytes}
use Rattle.rhd_value.specs.declared.tag.FnId.{FnId}
use Rattle.rhd_value.specs.declared.tag.TypeTag.{TypeTag}
use Rattle.rhd_value.specs.contracts.tag.FnId as number
use Rattle.rhd_value.specs.contracts.tag.TypeTag as tag
use Rattle.rhd_hash.specs.declared.key.Key.{Key}
use Rattle.rhd_hash.specs.declared.mixer.Seeds.{Seeds}
use Rattle.rhd_hash.specs.Parts.{mixed}
use Rattle.rhd_func.specs.Natives.{NativeInfo, info_of, says}
use Rattle.rhd_func.specs.declared.access.FnNamespace.{FnNamespace}
use Rattle.rhd_func.specs.contracts.access.FnNamespace as namespaces
use Rattle.rhd_func.specs.declared.access.FnAccess.TheVariants.{Public}
use Rattle.rhd_func.specs.declared.func.RhaiFunc.TheVariants.{StaticPlugin}
use Rattle.rhd_decl.specs.NativeKeys.{mapped_types, native_key_at}
use Rattle.rhd_decl.specs.declared.declaration.Declaration.{Declaration}

-- a native under a name, with what it says of its parameters
pub record Entry : Type 0 where
  pub name : Bytes
  pub namespace : FnNamespace
  pub func : FnId
  pub param_types : List TypeTag
  pub is_method : Bool

-- an entry for the native of a number
abbrev pub entry_of : List NativeInfo → Bytes → FnNamespace → FnId → Entry
entry_of natives name namespace func = record {
  name = name;
  namespace = namespace;
  func = func;
  param_types = option_map_or (λ n. n.types) (info_of natives func) [];
  is_method = says (λ n. n.is_method) natives func;
}

-- the key of an entry at a path, and in its module
abbrev pub entry_key_at : Option (List Bytes) → Entry → Key
entry_key_at path e = native_key_at path e.is_method e.name e.param_types

abbrev pub entry_key : Entry → Key
entry_key e = entry_key_at None e

-- as a declaration: public, and nothing is said of its parameters but their types
abbrev pub entry_decl : Seeds → Entry → Declaration
entry_decl seeds e = record {
  func = StaticPlugin e.func;
  metadata = record {
    hash = mixed seeds (entry_key e);
    namespace = e.namespace;
    access = Public;
    name = e.name;
    num_params = length e.param_types;
    param_types = mapped_types e.is_method e.param_types;
    params_info = [];
    return_type = [];
    comments = [];
  };
}

abbrev pub entry_pair : Seeds → Entry → Key × Declaration
entry_pair seeds e = (entry_key e, entry_decl seeds e)

-- how the logic stores an entry
abbrev pub coded_entry : Coded Entry
coded_entry =
    code_by (List ℕ × (FnNamespace × (FnId × (List TypeTag × Bool))))
    (coded× (coded_list coded_ℕ) (coded× namespaces.the_row.coded (coded× number.the_row.coded (coded× (coded_list tag.the_row.coded) coded_bool))))
    (λ e. (e.name, (e.namespace, (e.func, (e.param_types, e.is_method))))) (λ p. record { name = p.0; namespace = p.1.0; func = p.1.1.0; param_types = p.1.1.1.0; is_method = p.1.1.1.1 })
    (λ _. refl)
