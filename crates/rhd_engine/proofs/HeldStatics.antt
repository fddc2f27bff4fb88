-- The modules that are made for a name are held where the added one is.
use Rattle.std.proofs.Common.{◌≡◌, ℕ, true, List, [], ◌∷◌, Option, Some, None, refl, ap, ◌∙◌}
use Rattle.std.specs.Prelude.{unwrap_or, Result, Ok, Err}
use Rattle.rhd_value.specs.Tree.{Bytes}
use Rattle.rhd_hash.specs.declared.mixer.Seeds.{Seeds}
use Rattle.rhd_decl.specs.declared.fault.DeclFault.{DeclFault}
use Rattle.rhd_decl.specs.declared.fault.DeclFault.TheVariants.{HashCollision, IndexerNotAllowed, NotCallable, UnknownNumber, OutOfMemory}
use Rattle.rhd_module.specs.Tree.{ModuleTree, empty_module}
use Rattle.rhd_module.specs.Contents.{named, with_sub, find_sub}
use Rattle.rhd_module.specs.Index.{indexed}
use Rattle.rhd_layers.specs.Lists.{Imports, module_of}
use Rattle.rhd_layers.specs.Statics.{parts_of, placed, put_static, with_static, Places}
use Rattle.rhd_layers.proofs.Placed.{named_keeps}
use Rattle.rhd_engine.specs.Held.{names_held, named_held}
use Rattle.rhd_engine.proofs.HeldTrees.{sub_held, found_sub_held, put_held_module, module_held}

named_held_alike : (n : ℕ) (part : Bytes) (m : ModuleTree) → names_held n m ≡ true → names_held n (named part (indexed m)) ≡ true
named_held_alike n part m h = named_keeps (names_held n) part (indexed m) refl ∙ h

outer_held : (n : ℕ) (seeds : Seeds) (held : Option ModuleTree) → ((m : ModuleTree) → held ≡ Some m → names_held n m ≡ true) → names_held n (unwrap_or held (empty_module seeds)) ≡ true
outer_held n seeds None h = refl
outer_held n seeds (Some m) h = h m refl

pub placed_held : (n : ℕ) (seeds : Seeds) (added : ModuleTree) (part : Bytes) (more : List Bytes) (held : Option ModuleTree) → names_held n added ≡ true → ((m : ModuleTree) → held ≡ Some m → names_held n m ≡ true) → names_held n (placed seeds added part more held) ≡ true
placed_held n seeds added part [] held h all = named_held_alike n part added h
placed_held n seeds added part (next ∷ more) held h all =
    let outer = unwrap_or held (empty_module seeds) in
    let below = find_sub next outer.subs in
    let o = outer_held n seeds held all in
    let inner = placed_held n seeds added next more below h (λ m is. found_sub_held n next outer m o is) in
    named_held_alike n part (with_sub next (placed seeds added next more below) outer) (sub_held n next (placed seeds added next more below) outer inner o)

put_static_held : (n : ℕ) (seeds : Seeds) (added : ModuleTree) (parts : List Bytes) (statics : Imports) → names_held n added ≡ true → named_held n statics ≡ true → named_held n (put_static seeds added parts statics) ≡ true
put_static_held n seeds added [] statics h all = all
put_static_held n seeds added (part ∷ more) statics h all =
    put_held_module n statics part (placed seeds added part more (module_of part statics)) (placed_held n seeds added part more (module_of part statics) h (λ m is. module_held n statics part m all is)) all

pub static_held : (n : ℕ) (seeds : Seeds) (name : Bytes) (added : ModuleTree) (statics : Imports) → names_held n added ≡ true → named_held n statics ≡ true → named_held n (with_static seeds name added statics) ≡ true
static_held n seeds name added statics h all = put_static_held n seeds added (parts_of name) statics h all

-- what is left after a registration is held
pub places_held : {A : Type 0} (n : ℕ) (seeds : Seeds) (name : Bytes) (added : ModuleTree) (old new : Imports) (r : Result A DeclFault) → Places seeds name added old r new → names_held n added ≡ true → named_held n old ≡ true → named_held n new ≡ true
places_held n seeds name added old new (Ok answer) is h all = ap (named_held n) is.0 ∙ static_held n seeds name added old h all
places_held n seeds name added old new (Err OutOfMemory) is h all = ap (named_held n) is ∙ all
places_held n seeds name added old new (Err (HashCollision held other)) is h all = ap (named_held n) is.1 ∙ all
places_held n seeds name added old new (Err (IndexerNotAllowed key)) is h all = absurd is
places_held n seeds name added old new (Err NotCallable) is h all = absurd is
places_held n seeds name added old new (Err (UnknownNumber number count)) is h all = absurd is
