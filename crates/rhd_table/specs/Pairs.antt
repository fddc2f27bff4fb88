-- Declarations under their keys, and how more are put to them.
use Rattle.std.specs.Prelude.{List, [], ◌∷◌, is_none}
use Rattle.rhd_hash.specs.declared.key.Key.{Key}
use Rattle.rhd_decl.specs.declared.declaration.Declaration.{Declaration}
use Rattle.std.specs.Map.{lookup}
use Rattle.rhd_hash.specs.Keys.{key_eq}
use Rattle.rhd_hash.specs.PutIn.{put_in}
use Rattle.std.specs.List.{filter}

-- declarations under their keys
abbrev pub Pairs : Type 0
Pairs = List (Key × Declaration)

-- an equal key keeps its place and gets the new declaration; else the declaration goes last
abbrev pub put : Key → Declaration → Pairs → Pairs
put k d ps = put_in key_eq k d ps

-- declarations put in one after the other, the last first, and the first first
abbrev pub put_back : Pairs → Pairs → Pairs
put_back [] ps = ps
put_back (p ∷ more) ps = put p.0 p.1 (put_back more ps)

abbrev pub put_all : Pairs → Pairs → Pairs
put_all [] ps = ps
put_all (p ∷ more) ps = put_all more (put p.0 p.1 ps)

-- those of some declarations whose keys others don't have
abbrev pub without : Pairs → Pairs → Pairs
without others ps = filter (λ p. is_none (lookup (key_eq p.0) others)) ps
