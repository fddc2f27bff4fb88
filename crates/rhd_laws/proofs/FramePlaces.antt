-- What the places of a frame are: its libraries, latest first, the global modules, its imports, latest first, and the static modules.
use Rattle.std.proofs.Common.{◌≡◌, ℕ, ◌+◌, ◌-◌, List, ◌++◌, length, sym, ap, ◌∙◌, arith}
use Rattle.std.specs.Prelude.{slice_get, Some}
use Rattle.std.specs.List.{enumerate_from}
use Rattle.std.proofs.lemmas.List.{length-append, length-map}
use Rattle.std.proofs.lemmas.List.FromFn.{length-enumerate_from}
use Rattle.rhd_value.specs.Tree.{Bytes}
use Rattle.rhd_module.specs.Tree.{ModuleTree}
use Rattle.rhd_call.specs.declared.pick.Layer.TheVariants.{Library, Global, Import, Static}
use Rattle.rhd_engine.specs.Engine.{EngineLists, Frame, Imports}
use Rattle.rhd_dispatch.specs.Searched.{Place, own_place, tree_place, libraries, global_modules, import_places, static_modules, searched}
use Rattle.rhd_laws.proofs.Numbers.{in_front, in_back, both_lengths, one_backwards, one_onwards}

-- How many there are.

as_many_libraries : (e : EngineLists) (libs : List ModuleTree) → length (libraries e libs) ≡ length libs
as_many_libraries e libs = both_lengths (own_place e Library) libs

as_many_globals : (e : EngineLists) → length (global_modules e) ≡ length e.globals
as_many_globals e = length-map (enumerate_from 0 e.globals) (own_place e Global) ∙ length-enumerate_from 0 e.globals

as_many_imports : (e : EngineLists) (imports : Imports) → length (import_places e imports) ≡ length imports
as_many_imports e imports = both_lengths (tree_place e Import) imports

as_many_statics : (e : EngineLists) → length (static_modules e) ≡ length e.statics
as_many_statics e = length-map (enumerate_from 0 e.statics) (tree_place e Static) ∙ length-enumerate_from 0 e.statics

-- the places after the libraries, and those after the global modules
abbrev others : EngineLists → Frame → List Place
others e f = global_modules e ++ (import_places e f.imports ++ static_modules e)

abbrev trees : EngineLists → Frame → List Place
trees e f = import_places e f.imports ++ static_modules e

pub places_count : (e : EngineLists) (f : Frame) → length (searched e f.lib f.imports) ≡ length f.lib + length e.globals + length f.imports + length e.statics
places_count e f =
    omega (
      arith,
      length-append (libraries e f.lib) (others e f),
      length-append (global_modules e) (trees e f),
      length-append (import_places e f.imports) (static_modules e),
      as_many_libraries e f.lib,
      as_many_globals e,
      as_many_imports e f.imports,
      as_many_statics e,
    )

-- Places by their numbers.

pub library_place : (e : EngineLists) (f : Frame) (n : ℕ) (m : ModuleTree) → slice_get f.lib n ≡ Some m → slice_get (searched e f.lib f.imports) (length f.lib - 1 - n) ≡ Some (own_place e Library (n, m))
library_place e f n m is = in_front (libraries e f.lib) (others e f) (length f.lib - 1 - n) (own_place e Library (n, m)) (one_backwards (own_place e Library) f.lib n m is)

-- a place after the libraries
after_libraries : (e : EngineLists) (f : Frame) (k : ℕ) → slice_get (searched e f.lib f.imports) (length f.lib + k) ≡ slice_get (others e f) k
after_libraries e f k = ap (λ (l : ℕ). slice_get (searched e f.lib f.imports) (l + k)) (sym (as_many_libraries e f.lib)) ∙ in_back (libraries e f.lib) (others e f) k

pub global_place : (e : EngineLists) (f : Frame) (n : ℕ) (m : ModuleTree) → slice_get e.globals n ≡ Some m → slice_get (searched e f.lib f.imports) (length f.lib + n) ≡ Some (own_place e Global (n, m))
global_place e f n m is = after_libraries e f n ∙ in_front (global_modules e) (trees e f) n (own_place e Global (n, m)) (one_onwards (own_place e Global) e.globals n m is)

-- and one after the global modules
after_globals : (e : EngineLists) (f : Frame) (k : ℕ) → slice_get (searched e f.lib f.imports) (length f.lib + length e.globals + k) ≡ slice_get (trees e f) k
after_globals e f k =
    let s : length f.lib + length e.globals + k ≡ length f.lib + (length (global_modules e) + k) = omega (arith, as_many_globals e) in
    ap (slice_get (searched e f.lib f.imports)) s ∙ after_libraries e f (length (global_modules e) + k) ∙ in_back (global_modules e) (trees e f) k

pub import_place : (e : EngineLists) (f : Frame) (n : ℕ) (named : Bytes × ModuleTree) → slice_get f.imports n ≡ Some named
    → slice_get (searched e f.lib f.imports) (length f.lib + length e.globals + (length f.imports - 1 - n)) ≡ Some (tree_place e Import (n, named))
import_place e f n named is =
    after_globals e f (length f.imports - 1 - n) ∙ in_front (import_places e f.imports) (static_modules e) (length f.imports - 1 - n) (tree_place e Import (n, named)) (one_backwards (tree_place e Import) f.imports n named is)

pub static_place : (e : EngineLists) (f : Frame) (n : ℕ) (named : Bytes × ModuleTree) → slice_get e.statics n ≡ Some named
    → slice_get (searched e f.lib f.imports) (length f.lib + length e.globals + length f.imports + n) ≡ Some (tree_place e Static (n, named))
static_place e f n named is =
    let s : length f.lib + length e.globals + length f.imports + n ≡ length f.lib + length e.globals + (length (import_places e f.imports) + n) = omega (arith, as_many_imports e f.imports) in
    ap (slice_get (searched e f.lib f.imports)) s ∙ after_globals e f (length (import_places e f.imports) + n) ∙ in_back (import_places e f.imports) (static_modules e) n
    ∙ one_onwards (tree_place e Static) e.statics n named is
