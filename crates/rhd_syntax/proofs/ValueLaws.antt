-- Values: what is read is what is written.
use Rattle.std.proofs.Common.{◌≡◌, ℕ, zero, suc, ◌<◌, ◌≤◌, Bool, true, false, cond, eqb, ◌||◌, List, [], ◌∷◌, length, drop, Option, Some, None, refl, sym, ap, subst, ◌∙◌, arith, ℤ}
use Rattle.std.proofs.lemmas.Bool.{ne_eqb}
use Rattle.std.specs.Prelude.{codes}
use Rattle.std.specs.Str.{chars}
use Rattle.rhd_value.specs.declared.tag.Marks.{Marks}
use Rattle.rhd_value.specs.declared.tag.FnPtrType.{FnPtrType}
use Rattle.rhd_value.specs.declared.tag.FnPtrType.TheVariants as types
use Rattle.rhd_value.specs.Tree.{Bytes, Kind, unit, boolean, integer, character, text, array, object, pointer, custom, Tree, Items, no_items, item, Members, no_members, member, items_of, members_of, list_of, entries_of}
use Rattle.rhd_syntax.specs.declared.heads.Head.{Head}
use Rattle.rhd_syntax.specs.declared.heads.Head.TheVariants as heads
use Rattle.rhd_syntax.specs.declared.heads.Sort.{Sort}
use Rattle.rhd_syntax.specs.Bytes.{is_blank, begins, int_of}
use Rattle.rhd_syntax.specs.Spans.{Span, ◌▸◌, blanks, bracket, run, word, number, number_run, each, mark, marks, pair, pairs, truth, pointer_word, pointer_number, kind, value_within, value}
use Rattle.rhd_syntax.specs.Reading.{◌>>=◌, Parse, skip_blanks, is_end, many, comes, after_bracket, quoted_at, wording_at, num_at, made, inside, mark_at, marks_at, only_character, character_at, head_at, integer_at, type_at, members_at, items_at, unit_at, pointer_at, custom_at, headed_at, kind_at, tree_at, value_at}
use Rattle.rhd_syntax.proofs.Agrees.{Agrees, bind_some, same_some, some_pair}
use Rattle.rhd_syntax.proofs.WordLaws.{Stops, skipped, skips_to, blanks_shrink, run_shrinks, bare_shrinks}
use Rattle.rhd_syntax.proofs.ByteLaws.{begins_is, begins_same, begins_other, drops_to, run_begins, byte_shrinks, bracket_sound, bracket_complete, bracket_shrinks}
use Rattle.rhd_syntax.proofs.QuoteLaws.{tails_agree, letters_shrink, word_agrees, words_go}
use Rattle.rhd_syntax.proofs.ListLaws.{Goes, many_agrees}
use Rattle.rhd_syntax.proofs.HeadLaws.{Opens, opens_by, opens_not, opens_dark, opens_some, opens_more, starts, run_opens, Begins, sort_word, head_agrees, head_begins, num_agrees, integer_agrees, sort_of, type_sound, type_complete, sorts_word}
use Rattle.rhd_syntax.proofs.MapLaws.{Reads, members_agree}

-- ---- lists and their trees

list_items : (ts : List Tree) → list_of (items_of ts) ≡ ts
list_items [] = refl
list_items (t ∷ ts) = ap (λ (us : List Tree). t ∷ us) (list_items ts)

items_list : (ts : Items) → items_of (list_of ts) ≡ ts
items_list no_items = refl
items_list (item k m ts) = ap (λ (us : Items). item k m us) (items_list ts)

entries_members : (es : List (Bytes × Tree)) → entries_of (members_of es) ≡ es
entries_members [] = refl
entries_members (e ∷ es) = ap (λ (fs : List (Bytes × Tree)). e ∷ fs) (entries_members es)

members_entries : (es : Members) → members_of (entries_of es) ≡ es
members_entries no_members = refl
members_entries (member n k m es) = ap (λ (fs : Members). member n k m fs) (members_entries es)

-- ---- marks

abbrev marked : Bool → List ℕ → Bool × List ℕ
marked b bytes = cond b (true, drop 1 bytes) (false, bytes)

mark_sound : (b : Bool) (c : ℕ) (bytes : List ℕ) → 0 < c → begins c bytes ≡ b → mark c (marked b bytes).0 bytes (marked b bytes).1
mark_sound true c bytes some e = begins_is c bytes some e
mark_sound false c bytes some e = refl

marks_sound : (bytes : List ℕ) → marks (marks_at bytes).0 bytes (marks_at bytes).1
unfolding marks_at
marks_sound bytes =
    let a = mark_at 33 bytes in
    let b = mark_at 37 a.1 in
    (a.1, mark_sound (begins 33 bytes) 33 bytes (omega arith) refl, (b.1, mark_sound (begins 37 a.1) 37 a.1 (omega arith) refl, mark_sound (begins 126 b.1) 126 b.1 (omega arith) refl))

mark_complete : (x : Bool) (c : ℕ) (bytes rest : List ℕ) → mark c x bytes rest → begins c rest ≡ false → mark_at c bytes ≡ (x, rest)
mark_complete true c bytes rest m h = rw (begins_same c bytes rest m, drops_to c bytes rest m) refl
mark_complete false c bytes rest m h = rw (ap (begins c) m ∙ h) (ap (λ (r : List ℕ). (false, r)) m)

-- a mark that another one may stand before
through : (x : Bool) (c d : ℕ) (bytes rest : List ℕ) → mark c x bytes rest → eqb c d ≡ false → begins d rest ≡ false → begins d bytes ≡ false
through true c d bytes rest m other h = begins_other c d bytes rest other m
through false c d bytes rest m other h = ap (begins d) m ∙ h

marks_complete : (m : Marks) (bytes rest : List ℕ) → marks m bytes rest → Opens starts rest → marks_at bytes ≡ (m, rest)
unfolding marks_at starts
marks_complete m bytes rest (one, first, (two, second, third)) o =
    let no = opens_not starts rest o in
    let a = mark_complete m.read_only 33 bytes one first (through m.shared 37 33 one two second refl (through m.locked 126 33 two rest third refl (no 33 refl))) in
    let b = mark_complete m.shared 37 one two second (through m.locked 126 37 two rest third refl (no 37 refl)) in
    let c = mark_complete m.locked 126 two rest third (no 126 refl) in
    rw (a, b, c) refl

mark_shrinks : (x : Bool) (c : ℕ) (bytes rest : List ℕ) → mark c x bytes rest → length rest ≤ length bytes
mark_shrinks true c bytes rest m = omega (arith, byte_shrinks c bytes rest m)
mark_shrinks false c bytes rest m = omega (arith, ap length m)

marks_shrink : (m : Marks) (bytes rest : List ℕ) → marks m bytes rest → length rest ≤ length bytes
marks_shrink m bytes rest w = omega (arith, mark_shrinks m.read_only 33 bytes w.0 w.1, mark_shrinks m.shared 37 w.0 w.2.0 w.2.1, mark_shrinks m.locked 126 w.2.0 rest w.2.2)

-- what begins a value with its marks
pub opens_value : ℕ → Bool
opens_value b = starts b || eqb b 33 || eqb b 37 || eqb b 126

start_opens : (b : ℕ) → starts b ≡ true → opens_value b ≡ true
unfolding opens_value
start_opens b h = rw h refl

mark_opens : (x : Bool) (c : ℕ) (bytes rest : List ℕ) → mark c x bytes rest → opens_value c ≡ true → Opens opens_value rest → Opens opens_value bytes
mark_opens true c bytes rest m h o = opens_by opens_value c bytes rest m h
mark_opens false c bytes rest m h o = subst (λ (b : List ℕ). Opens opens_value b) (sym m) o

marks_open : (m : Marks) (bytes rest : List ℕ) → marks m bytes rest → Opens starts rest → Opens opens_value bytes
unfolding opens_value starts
marks_open m bytes rest w o =
    mark_opens m.read_only 33 bytes w.0 w.1 refl (mark_opens m.shared 37 w.0 w.2.0 w.2.1 refl (mark_opens m.locked 126 w.2.0 rest w.2.2 refl (opens_more starts opens_value rest start_opens o)))

-- ---- how a value is read whose inner values are read so

pub record Inner (one : Parse Tree) (element : Tree → Span) : Type 0 where
  pub reads : Reads one element
  pub opens : (t : Tree) (bytes rest : List ℕ) → element t bytes rest → Opens opens_value (skip_blanks bytes)

inner_goes : (one : Parse Tree) (element : Tree → Span) (inner : Inner one element) (close : ℕ) → opens_value close ≡ false → Goes Tree (comes close) element
inner_goes one element inner close other = record {
  shrinks = inner.reads.shrinks;
  begun = λ t bytes rest w. opens_not opens_value (skip_blanks bytes) (inner.opens t bytes rest w) close other;
}

items_agree : (one : Parse Tree) (element : Tree → Span) (inner : Inner one element) (close : ℕ) → opens_value close ≡ false → 0 < close → is_blank close ≡ false → Agrees (List Tree) (items_at close one) (λ ts. each element ts ▸ bracket close)
unfolding items_at
items_agree one element inner close other some dark =
    let all = many_agrees Tree (comes close) one element inner.reads.agrees (inner_goes one element inner close other) in
    record {
      sound = λ ts bytes rest e.
          let a = bind_some (many (comes close) one [] (length bytes) bytes) (λ x. Some (x.0, after_bracket x.1)) (ts, rest) e in
          let p = some_pair a.0.0 ts (after_bracket a.0.1) rest a.2 in
          let w = all.sound a.0.0 bytes a.0.1 a.1 in
          (a.0.1, subst (λ (us : List Tree). each element us bytes a.0.1) p.0 w.0, subst (λ (r : List ℕ). bracket close a.0.1 r) p.1 (bracket_sound close a.0.1 some w.1));
      complete = λ ts bytes rest w.
          let b = bracket_complete close w.0 rest dark w.2 in
          rw (all.complete ts bytes w.0 (w.1, b.0), b.1) refl;
    }

closers : (opens_value 41 ≡ false) × (opens_value 93 ≡ false)
unfolding opens_value starts
closers = (refl, refl)

curry_agrees : (one : Parse Tree) (element : Tree → Span) (inner : Inner one element) → Agrees (List Tree) (items_at 41 one) (λ ts. each element ts ▸ bracket 41)
curry_agrees one element inner = items_agree one element inner 41 closers.0 (omega arith) refl

array_agrees : (one : Parse Tree) (element : Tree → Span) (inner : Inner one element) → Agrees (List Tree) (items_at 93 one) (λ ts. each element ts ▸ bracket 93)
array_agrees one element inner = items_agree one element inner 93 closers.1 (omega arith) refl

-- ---- characters

only_sound : (cs : List ℕ) (c : ℕ) → only_character cs ≡ Some c → cs ≡ c ∷ []
only_sound [] c e = absurd cc
only_sound (b ∷ []) c e = ap (λ (x : ℕ). x ∷ []) (same_some b c e)
only_sound (b ∷ (d ∷ cs)) c e = absurd cc

-- the rest of a quoted character, after its first byte
abbrev CharacterTail : ℕ → Span
CharacterTail c bytes rest = (s : List ℕ) × (chars s ≡ c ∷ []) × (quoted_at 39 bytes ≡ Some (s, rest))

character_sound : (c : ℕ) (bytes rest : List ℕ) → character_at bytes ≡ Some (c, rest) → CharacterTail c bytes rest
unfolding character_at
character_sound c bytes rest e =
    let a = bind_some (quoted_at 39 bytes) (λ s. only_character (chars s.0) >>= λ d. Some (d, s.1)) (c, rest) e in
    let b = bind_some (only_character (chars a.0.0)) (λ d. Some (d, a.0.1)) (c, rest) a.2 in
    let p = some_pair b.0 c a.0.1 rest b.2 in
    (a.0.0, only_sound (chars a.0.0) b.0 b.1 ∙ ap (λ (x : ℕ). x ∷ []) p.0, a.1 ∙ ap (λ (r : List ℕ). Some (a.0.0, r)) p.1)

character_complete : (c : ℕ) (bytes rest : List ℕ) → CharacterTail c bytes rest → character_at bytes ≡ Some (c, rest)
unfolding character_at
character_complete c bytes rest w = rw (w.2, w.1) refl

-- ---- soundness

-- what is made of something that is read
made_sound : (A : Type 0) (f : A → Kind) (p : Parse A) (P : Kind → List ℕ → Type 0) (k : Kind) (bytes rest : List ℕ) → ((x : A) (r : List ℕ) → p bytes ≡ Some (x, r) → P (f x) r) → made f p bytes ≡ Some (k, rest) → P k rest
made_sound A f p P k bytes rest here e =
    let a = bind_some (p bytes) (λ x. Some (f x.0, x.1)) (k, rest) e in
    let q = some_pair (f a.0.0) k a.0.1 rest a.2 in
    subst (λ (j : Kind). P j rest) q.0 (subst (λ (r : List ℕ). P (f a.0.0) r) q.1 (here a.0.0 a.0.1 a.1))

unit_sound : (element : Tree → Span) (b : Bool) (k : Kind) (bytes rest : List ℕ) → begins 40 bytes ≡ true → comes 41 (drop 1 bytes) ≡ b → cond {A = Option (Kind × List ℕ)} b (Some (unit, after_bracket (drop 1 bytes))) None ≡ Some (k, rest) → kind element k bytes rest
unit_sound element true k bytes rest h c e =
    let p = some_pair unit k (after_bracket (drop 1 bytes)) rest e in
    subst (λ (j : Kind). kind element j bytes rest) p.0 (drop 1 bytes, begins_is 40 bytes (omega arith) h, subst (λ (r : List ℕ). bracket 41 (drop 1 bytes) r) p.1 (bracket_sound 41 (drop 1 bytes) (omega arith) c))
unit_sound element false k bytes rest h c e = absurd cc

text_sound : (element : Tree → Span) (s bytes rest : List ℕ) → begins 34 bytes ≡ true → quoted_at 34 (drop 1 bytes) ≡ Some (s, rest) → kind element (text s) bytes rest
text_sound element s bytes rest h e = let w = (tails_agree 34 refl).sound s (drop 1 bytes) rest e in (w.0, (drop 1 bytes, begins_is 34 bytes (omega arith) h, w.1), w.2)

char_sound : (element : Tree → Span) (c : ℕ) (bytes rest : List ℕ) → begins 39 bytes ≡ true → character_at (drop 1 bytes) ≡ Some (c, rest) → kind element (character c) bytes rest
char_sound element c bytes rest h e =
    let t = character_sound c (drop 1 bytes) rest e in
    let w = (tails_agree 39 refl).sound t.0 (drop 1 bytes) rest t.2 in
    (t.0, t.1, (w.0, (drop 1 bytes, begins_is 39 bytes (omega arith) h, w.1), w.2))

array_sound : (one : Parse Tree) (element : Tree → Span) (inner : Inner one element) (ts : List Tree) (bytes rest : List ℕ) → begins 91 bytes ≡ true → items_at 93 one (drop 1 bytes) ≡ Some (ts, rest) → kind element (array (items_of ts)) bytes rest
array_sound one element inner ts bytes rest h e =
    (drop 1 bytes, begins_is 91 bytes (omega arith) h, subst (λ (us : List Tree). (each element us ▸ bracket 93) (drop 1 bytes) rest) (sym (list_items ts)) ((array_agrees one element inner).sound ts (drop 1 bytes) rest e))

object_sound : (one : Parse Tree) (element : Tree → Span) (inner : Inner one element) (es : List (Bytes × Tree)) (bytes rest : List ℕ) → begins 123 bytes ≡ true → members_at one (drop 1 bytes) ≡ Some (es, rest) → kind element (object (members_of es)) bytes rest
object_sound one element inner es bytes rest h e =
    (drop 1 bytes, begins_is 123 bytes (omega arith) h, subst (λ (fs : List (Bytes × Tree)). (pairs element fs ▸ bracket 125) (drop 1 bytes) rest) (sym (entries_members es)) ((members_agree one element inner.reads).sound es (drop 1 bytes) rest e))

-- the rest of a pointer, after its first bracket
abbrev PointerTail : (Tree → Span) → Bytes → List Tree → FnPtrType → Span
PointerTail element f ts p = word f ▸ (pointer_number p ▸ (each element ts ▸ bracket 41))

pointer_sound : (one : Parse Tree) (element : Tree → Span) (inner : Inner one element) (sort : Sort) (k : Kind) (bytes rest : List ℕ) → pointer_at one sort bytes ≡ Some (k, rest)
    → (f : Bytes) × (ts : List Tree) × (p : FnPtrType) × (pointer f (items_of ts) p ≡ k) × (sort ≡ sort_of p) × PointerTail element f ts p bytes rest
unfolding pointer_at
pointer_sound one element inner sort k bytes rest e =
    let a = bind_some (wording_at bytes) (λ f. type_at sort f.1 >>= λ p. items_at 41 one p.1 >>= λ ts. Some (pointer f.0 (items_of ts.0) p.0, ts.1)) (k, rest) e in
    let b = bind_some (type_at sort a.0.1) (λ p. items_at 41 one p.1 >>= λ ts. Some (pointer a.0.0 (items_of ts.0) p.0, ts.1)) (k, rest) a.2 in
    let c = bind_some (items_at 41 one b.0.1) (λ ts. Some (pointer a.0.0 (items_of ts.0) b.0.0, ts.1)) (k, rest) b.2 in
    let q = some_pair (pointer a.0.0 (items_of c.0.0) b.0.0) k c.0.1 rest c.2 in
    let t = type_sound sort b.0.0 a.0.1 b.0.1 b.1 in
    let w = subst (λ (r : List ℕ). (each element c.0.0 ▸ bracket 41) b.0.1 r) q.1 ((curry_agrees one element inner).sound c.0.0 b.0.1 c.0.1 c.1) in
    (a.0.0, c.0.0, b.0.0, q.0, t.0, (a.0.1, word_agrees.sound a.0.0 bytes a.0.1 a.1, (b.0.1, t.1, w)))

abbrev CustomTail : ℕ → ℤ → Span
CustomTail n z = number 32 n ▸ ((blanks ▸ number_run z) ▸ bracket 41)

custom_end : (b : Bool) (n : ℕ) (z : ℤ) (k : Kind) (bytes rest : List ℕ) → comes 41 bytes ≡ b → cond {A = Option (Kind × List ℕ)} b (Some (custom n z, after_bracket bytes)) None ≡ Some (k, rest) → (custom n z ≡ k) × bracket 41 bytes rest
custom_end true n z k bytes rest h e = let p = some_pair (custom n z) k (after_bracket bytes) rest e in (p.0, subst (λ (r : List ℕ). bracket 41 bytes r) p.1 (bracket_sound 41 bytes (omega arith) h))
custom_end false n z k bytes rest h e = absurd cc

custom_sound : (k : Kind) (bytes rest : List ℕ) → custom_at bytes ≡ Some (k, rest) → (n : ℕ) × (z : ℤ) × (custom n z ≡ k) × CustomTail n z bytes rest
unfolding custom_at
custom_sound k bytes rest e =
    let a = bind_some (num_at 32 bytes) (λ n. integer_at n.1 >>= λ z. cond {A = Option (Kind × List ℕ)} (comes 41 z.1) (Some (custom n.0 z.0, after_bracket z.1)) None) (k, rest) e in
    let b = bind_some (integer_at a.0.1) (λ z. cond {A = Option (Kind × List ℕ)} (comes 41 z.1) (Some (custom a.0.0 z.0, after_bracket z.1)) None) (k, rest) a.2 in
    let c = custom_end (comes 41 b.0.1) a.0.0 b.0.0 k b.0.1 rest refl b.2 in
    (a.0.0, b.0.0, c.0, (a.0.1, (num_agrees 32).sound a.0.0 bytes a.0.1 a.1, (b.0.1, integer_agrees.sound b.0.0 a.0.1 b.0.1 b.1, c.1)))

-- what stands in a bracket that comes at once
inside_sound : (p : Parse Kind) (b : Bool) (k : Kind) (bytes rest : List ℕ) → begins 40 bytes ≡ b → cond b (p (drop 1 bytes)) None ≡ Some (k, rest) → (bytes ≡ 40 ∷ drop 1 bytes) × (p (drop 1 bytes) ≡ Some (k, rest))
inside_sound p true k bytes rest h e = (begins_is 40 bytes (omega arith) h, e)
inside_sound p false k bytes rest h e = absurd cc

headed_sound : (one : Parse Tree) (element : Tree → Span) (inner : Inner one element) (h : Head) (k : Kind) (w bytes middle rest : List ℕ) → Begins h w → run w bytes middle → headed_at one h middle ≡ Some (k, rest) → kind element k bytes rest
unfolding headed_at
headed_sound one element inner (heads.Truth b) k w bytes middle rest begun r e =
    let p = some_pair (boolean b) k middle rest e in
    subst (λ (j : Kind). kind element j bytes rest) p.0 (subst (λ (m : List ℕ). run (truth b) bytes m) p.1 (subst (λ (v : List ℕ). run v bytes middle) begun r))
headed_sound one element inner (heads.Int z) k w bytes middle rest begun r e =
    let p = some_pair (integer z) k middle rest e in
    subst (λ (j : Kind). kind element j bytes rest) p.0 (w, begun, subst (λ (m : List ℕ). run w bytes m) p.1 r)
headed_sound one element inner (heads.Pointer sort) k w bytes middle rest begun r e =
    let i = inside_sound (pointer_at one sort) (begins 40 middle) k middle rest refl e in
    let s = pointer_sound one element inner sort k (drop 1 middle) rest i.1 in
    let same : w ≡ pointer_word s.2 = begun ∙ ap sort_word s.4 ∙ sorts_word s.2 in
    let tail : PointerTail element s.0 (list_of (items_of s.1)) s.2 (drop 1 middle) rest = subst (λ (us : List Tree). PointerTail element s.0 us s.2 (drop 1 middle) rest) (sym (list_items s.1)) s.5 in
    subst (λ (j : Kind). kind element j bytes rest) s.3 (middle, subst (λ (v : List ℕ). run v bytes middle) same r, (drop 1 middle, i.0, tail))
headed_sound one element inner heads.Custom k w bytes middle rest begun r e =
    let i = inside_sound custom_at (begins 40 middle) k middle rest refl e in
    let s = custom_sound k (drop 1 middle) rest i.1 in
    subst (λ (j : Kind). kind element j bytes rest) s.2 (middle, subst (λ (v : List ℕ). run v bytes middle) begun r, (drop 1 middle, i.0, s.3))

named_sound : (one : Parse Tree) (element : Tree → Span) (inner : Inner one element) (k : Kind) (bytes rest : List ℕ) → (head_at bytes >>= λ h. headed_at one h.0 h.1) ≡ Some (k, rest) → kind element k bytes rest
named_sound one element inner k bytes rest e =
    let a = bind_some (head_at bytes) (λ h. headed_at one h.0 h.1) (k, rest) e in
    let w = head_agrees.sound a.0.0 bytes a.0.1 a.1 in
    headed_sound one element inner a.0.0 k w.0 bytes a.0.1 rest w.1 w.2 a.2

kind_sound : (one : Parse Tree) (element : Tree → Span) (inner : Inner one element) (a b c d f : Bool) (k : Kind) (bytes rest : List ℕ) → begins 40 bytes ≡ a → begins 34 bytes ≡ b → begins 39 bytes ≡ c → begins 91 bytes ≡ d → begins 123 bytes ≡ f
    → cond a (unit_at (drop 1 bytes)) (cond b (made (λ s. text s) (quoted_at 34) (drop 1 bytes)) (cond c (made (λ c. character c) character_at (drop 1 bytes)) (cond d (made (λ ts. array (items_of ts)) (items_at 93 one) (drop 1 bytes)) (cond f (made (λ es. object (members_of es)) (members_at one) (drop 1 bytes)) (head_at bytes >>= λ h. headed_at one h.0 h.1))))) ≡ Some (k, rest)
    → kind element k bytes rest
kind_sound one element inner true b c d f k bytes rest ha hb hc hd hf e = unit_sound element (comes 41 (drop 1 bytes)) k bytes rest ha refl e
kind_sound one element inner false true c d f k bytes rest ha hb hc hd hf e =
    made_sound (List ℕ) (λ s. text s) (quoted_at 34) (λ j r. kind element j bytes r) k (drop 1 bytes) rest (λ s r h. text_sound element s bytes r hb h) e
kind_sound one element inner false false true d f k bytes rest ha hb hc hd hf e =
    made_sound ℕ (λ c. character c) character_at (λ j r. kind element j bytes r) k (drop 1 bytes) rest (λ c r h. char_sound element c bytes r hc h) e
kind_sound one element inner false false false true f k bytes rest ha hb hc hd hf e =
    made_sound (List Tree) (λ ts. array (items_of ts)) (items_at 93 one) (λ j r. kind element j bytes r) k (drop 1 bytes) rest (λ ts r h. array_sound one element inner ts bytes r hd h) e
kind_sound one element inner false false false false true k bytes rest ha hb hc hd hf e =
    made_sound (List (Bytes × Tree)) (λ es. object (members_of es)) (members_at one) (λ j r. kind element j bytes r) k (drop 1 bytes) rest (λ es r h. object_sound one element inner es bytes r hf h) e
kind_sound one element inner false false false false false k bytes rest ha hb hc hd hf e = named_sound one element inner k bytes rest e

-- ---- completeness

headed_complete : (one : Parse Tree) (h : Head) (k : Kind) (w bytes middle rest : List ℕ) → Begins h w → run w bytes middle → headed_at one h middle ≡ Some (k, rest) → kind_at one bytes ≡ Some (k, rest)
unfolding kind_at
headed_complete one h k w bytes middle rest begun r e =
    rw (run_begins 40 w bytes middle refl r, run_begins 34 w bytes middle refl r, run_begins 39 w bytes middle refl r, run_begins 91 w bytes middle refl r, run_begins 123 w bytes middle refl r, head_agrees.complete h bytes middle (w, begun, r)) e

pointer_complete : (one : Parse Tree) (element : Tree → Span) (inner : Inner one element) (f : Bytes) (ts : Items) (p : FnPtrType) (bytes rest : List ℕ) → PointerTail element f (list_of ts) p bytes rest → pointer_at one (sort_of p) bytes ≡ Some (pointer f ts p, rest)
unfolding pointer_at
pointer_complete one element inner f ts p bytes rest (a, name, (b, sort, curry)) =
    rw (word_agrees.complete f bytes a name, type_complete p a b sort, (curry_agrees one element inner).complete (list_of ts) b rest curry, items_list ts) refl

custom_complete : (n : ℕ) (z : ℤ) (bytes rest : List ℕ) → CustomTail n z bytes rest → custom_at bytes ≡ Some (custom n z, rest)
unfolding custom_at
custom_complete n z bytes rest (a, number, (b, payload, close)) =
    let d = bracket_complete 41 b rest refl close in
    rw ((num_agrees 32).complete n bytes a number, integer_agrees.complete z a b payload, d.0, d.1) refl

inside_complete : (p : Parse Kind) (k : Kind) (bytes middle rest : List ℕ) → bytes ≡ 40 ∷ middle → p middle ≡ Some (k, rest) → inside p bytes ≡ Some (k, rest)
inside_complete p k bytes middle rest e h = rw (begins_same 40 bytes middle e, drops_to 40 bytes middle e) h

headed_pointer : (one : Parse Tree) (element : Tree → Span) (inner : Inner one element) (f : Bytes) (ts : Items) (p : FnPtrType) (bytes middle rest : List ℕ) → bytes ≡ 40 ∷ middle → PointerTail element f (list_of ts) p middle rest → headed_at one (heads.Pointer (sort_of p)) bytes ≡ Some (pointer f ts p, rest)
unfolding headed_at
headed_pointer one element inner f ts p bytes middle rest e w = inside_complete (pointer_at one (sort_of p)) (pointer f ts p) bytes middle rest e (pointer_complete one element inner f ts p middle rest w)

headed_custom : (one : Parse Tree) (n : ℕ) (z : ℤ) (bytes middle rest : List ℕ) → bytes ≡ 40 ∷ middle → CustomTail n z middle rest → headed_at one heads.Custom bytes ≡ Some (custom n z, rest)
unfolding headed_at
headed_custom one n z bytes middle rest e w = inside_complete custom_at (custom n z) bytes middle rest e (custom_complete n z middle rest w)

headed_truth : (one : Parse Tree) (b : Bool) (rest : List ℕ) → headed_at one (heads.Truth b) rest ≡ Some (boolean b, rest)
unfolding headed_at
headed_truth one b rest = refl

headed_int : (one : Parse Tree) (z : ℤ) (rest : List ℕ) → headed_at one (heads.Int z) rest ≡ Some (integer z, rest)
unfolding headed_at
headed_int one z rest = refl

kind_complete : (one : Parse Tree) (element : Tree → Span) (inner : Inner one element) (k : Kind) (bytes rest : List ℕ) → kind element k bytes rest → kind_at one bytes ≡ Some (k, rest)
unfolding kind_at
kind_complete one element inner unit bytes rest w =
    let b = bracket_complete 41 w.0 rest refl w.2 in
    rw (begins_same 40 bytes w.0 w.1, drops_to 40 bytes w.0 w.1, b.0, b.1) refl
kind_complete one element inner (boolean b) bytes rest w = headed_complete one (heads.Truth b) (boolean b) (truth b) bytes rest rest refl w (headed_truth one b rest)
kind_complete one element inner (integer z) bytes rest w = headed_complete one (heads.Int z) (integer z) w.0 bytes rest rest w.1 w.2 (headed_int one z rest)
kind_complete one element inner (character c) bytes rest w =
    let q = w.2.1 in
    let t = (tails_agree 39 refl).complete w.0 q.0 rest (w.2.0, q.2, w.2.2) in
    rw (begins_other 39 40 bytes q.0 refl q.1, begins_other 39 34 bytes q.0 refl q.1, begins_same 39 bytes q.0 q.1, drops_to 39 bytes q.0 q.1, character_complete c q.0 rest (w.0, w.1, t)) refl
kind_complete one element inner (text s) bytes rest w =
    let q = w.1 in
    rw (begins_other 34 40 bytes q.0 refl q.1, begins_same 34 bytes q.0 q.1, drops_to 34 bytes q.0 q.1, (tails_agree 34 refl).complete s q.0 rest (w.0, q.2, w.2)) refl
kind_complete one element inner (array ts) bytes rest w =
    rw (begins_other 91 40 bytes w.0 refl w.1, begins_other 91 34 bytes w.0 refl w.1, begins_other 91 39 bytes w.0 refl w.1, begins_same 91 bytes w.0 w.1, drops_to 91 bytes w.0 w.1, (array_agrees one element inner).complete (list_of ts) w.0 rest w.2, items_list ts) refl
kind_complete one element inner (object es) bytes rest w =
    rw (begins_other 123 40 bytes w.0 refl w.1, begins_other 123 34 bytes w.0 refl w.1, begins_other 123 39 bytes w.0 refl w.1, begins_other 123 91 bytes w.0 refl w.1, begins_same 123 bytes w.0 w.1, drops_to 123 bytes w.0 w.1, (members_agree one element inner.reads).complete (entries_of es) w.0 rest w.2, members_entries es) refl
kind_complete one element inner (pointer f ts p) bytes rest (middle, r, (after, e, w)) =
    headed_complete one (heads.Pointer (sort_of p)) (pointer f ts p) (pointer_word p) bytes middle rest (sym (sorts_word p)) r (headed_pointer one element inner f ts p middle after rest e w)
kind_complete one element inner (custom n z) bytes rest (middle, r, (after, e, w)) =
    headed_complete one heads.Custom (custom n z) (codes "custom") bytes middle rest refl r (headed_custom one n z middle after rest e w)

pub kind_agrees : (one : Parse Tree) (element : Tree → Span) (inner : Inner one element) → Agrees Kind (kind_at one) (kind element)
unfolding kind_at
kind_agrees one element inner = record {
  sound = λ k bytes rest e. kind_sound one element inner (begins 40 bytes) (begins 34 bytes) (begins 39 bytes) (begins 91 bytes) (begins 123 bytes) k bytes rest refl refl refl refl refl e;
  complete = λ k bytes rest w. kind_complete one element inner k bytes rest w;
}

-- ---- what begins a value, and that it takes bytes

truth_starts : (b : Bool) → Opens starts (truth b)
truth_starts b = head_begins (heads.Truth b) (truth b) refl

pointer_starts : (p : FnPtrType) → Opens starts (pointer_word p)
pointer_starts p = head_begins (heads.Pointer (sort_of p)) (pointer_word p) (sym (sorts_word p))

custom_starts : Opens starts (codes "custom")
custom_starts = head_begins heads.Custom (codes "custom") refl

int_run_starts : (w : List ℕ) (z : ℤ) → int_of w ≡ Some z → Opens starts w
int_run_starts w z e = head_begins (heads.Int z) w e

kind_opens : (element : Tree → Span) (k : Kind) (bytes rest : List ℕ) → kind element k bytes rest → Opens starts bytes
unfolding starts
kind_opens element unit bytes rest w = opens_by starts 40 bytes w.0 w.1 refl
kind_opens element (boolean b) bytes rest w = run_opens starts (truth b) bytes rest (truth_starts b) w
kind_opens element (integer z) bytes rest w = run_opens starts w.0 bytes rest (int_run_starts w.0 z w.1) w.2
kind_opens element (character c) bytes rest w = opens_by starts 39 bytes w.2.1.0 w.2.1.1 refl
kind_opens element (text s) bytes rest w = opens_by starts 34 bytes w.1.0 w.1.1 refl
kind_opens element (array ts) bytes rest w = opens_by starts 91 bytes w.0 w.1 refl
kind_opens element (object es) bytes rest w = opens_by starts 123 bytes w.0 w.1 refl
kind_opens element (pointer f ts p) bytes rest w = run_opens starts (pointer_word p) bytes w.0 (pointer_starts p) w.1
kind_opens element (custom n z) bytes rest w = run_opens starts (codes "custom") bytes w.0 custom_starts w.1

abbrev Shrinks : {A : Type 0} → (A → Span) → Type 0
Shrinks {A = A} written = (x : A) (bytes rest : List ℕ) → written x bytes rest → length rest < length bytes

each_shrinks : (A : Type 0) (written : A → Span) → Shrinks written → (xs : List A) (bytes rest : List ℕ) → each written xs bytes rest → length rest ≤ length bytes
each_shrinks A written less [] bytes rest w = omega (arith, ap length w)
each_shrinks A written less (x ∷ xs) bytes rest w = omega (arith, less x bytes w.0 w.1, each_shrinks A written less xs w.0 rest w.2)

word_shrinks : Shrinks word
word_shrinks = λ f bytes rest w. (words_go 41 refl refl).shrinks f bytes rest w

pair_shrinks : (element : Tree → Span) → Shrinks element → Shrinks (pair element)
pair_shrinks element less = λ e bytes rest w. omega (arith, word_shrinks e.0 bytes w.0 w.1, less e.1 w.0 rest w.2)

number_shrinks : (bits n : ℕ) (bytes rest : List ℕ) → number bits n bytes rest → length rest < length bytes
number_shrinks bits n bytes rest w = bare_shrinks w.0 bytes rest w.2

pointer_shrinks : (p : FnPtrType) (bytes rest : List ℕ) → pointer_number p bytes rest → length rest ≤ length bytes
pointer_shrinks types.Normal bytes rest w = omega (arith, ap length w)
pointer_shrinks (types.Script n) bytes rest w = omega (arith, number_shrinks 64 n bytes rest w)
pointer_shrinks (types.Native id) bytes rest w = omega (arith, number_shrinks 32 id.0 bytes rest w)

kind_shrinks : (element : Tree → Span) → Shrinks element → (k : Kind) (bytes rest : List ℕ) → kind element k bytes rest → length rest < length bytes
kind_shrinks element less unit bytes rest w = omega (arith, byte_shrinks 40 bytes w.0 w.1, bracket_shrinks 41 w.0 rest w.2)
kind_shrinks element less (boolean b) bytes rest w = run_shrinks (truth b) bytes rest w
kind_shrinks element less (integer z) bytes rest w = run_shrinks w.0 bytes rest w.2
kind_shrinks element less (character c) bytes rest w = omega (arith, byte_shrinks 39 bytes w.2.1.0 w.2.1.1, letters_shrink 39 w.0 w.2.1.0 rest w.2.1.2)
kind_shrinks element less (text s) bytes rest w = omega (arith, byte_shrinks 34 bytes w.1.0 w.1.1, letters_shrink 34 s w.1.0 rest w.1.2)
kind_shrinks element less (array ts) bytes rest w = omega (arith, byte_shrinks 91 bytes w.0 w.1, each_shrinks Tree element less (list_of ts) w.0 w.2.0 w.2.1, bracket_shrinks 93 w.2.0 rest w.2.2)
kind_shrinks element less (object es) bytes rest w = omega (arith, byte_shrinks 123 bytes w.0 w.1, each_shrinks (Bytes × Tree) (pair element) (pair_shrinks element less) w.2.1.0 w.0 w.2.0 w.2.1.2, bracket_shrinks 125 w.2.0 rest w.2.2)
kind_shrinks element less (pointer f ts p) bytes rest (a, r, (b, e, (c, name, (d, sort, (g, curry, close))))) =
    omega (arith, run_shrinks (pointer_word p) bytes a r, byte_shrinks 40 a b e, word_shrinks f b c name, pointer_shrinks p c d sort, each_shrinks Tree element less (list_of ts) d g curry, bracket_shrinks 41 g rest close)
kind_shrinks element less (custom n z) bytes rest (a, r, (b, e, (c, number, (d, payload, close)))) =
    omega (arith, run_shrinks (codes "custom") bytes a r, byte_shrinks 40 a b e, number_shrinks 32 n b c number, blanks_shrink c payload.0 payload.1, run_shrinks payload.2.0 payload.0 d payload.2.2, bracket_shrinks 41 d rest close)

-- ---- values, by how deep they may be

-- what is read and written so deep
pub record Deep (deep : ℕ) : Type 0 where
  pub inner : Inner (tree_at deep) (value_within deep)

no_depth : Deep zero
unfolding tree_at value_within
no_depth = record {
  inner = record {
    reads = record {
      agrees = record { sound = λ t bytes rest e. absurd cc; complete = λ t bytes rest w. absurd w };
      shrinks = λ t bytes rest w. absurd w;
    };
    opens = λ t bytes rest w. absurd w;
  };
}

tree_sound : (deep : ℕ) (d : Deep deep) (t : Tree) (bytes rest : List ℕ) → tree_at (suc deep) bytes ≡ Some (t, rest) → value_within (suc deep) t bytes rest
unfolding tree_at value_within
tree_sound deep d t bytes rest e =
    let here = skip_blanks bytes in
    let m = marks_at here in
    let a = bind_some (kind_at (tree_at deep) m.1) (λ k. Some (record { kind = k.0; marks = m.0 }, k.1)) (t, rest) e in
    let p = some_pair (record { kind = a.0.0; marks = m.0 }) t a.0.1 rest a.2 in
    let w = (kind_agrees (tree_at deep) (value_within deep) d.inner).sound a.0.0 m.1 a.0.1 a.1 in
    subst (λ (u : Tree). (blanks ▸ (marks u.marks ▸ kind (value_within deep) u.kind)) bytes rest) p.0 (here, skipped bytes, (m.1, marks_sound here, subst (λ (r : List ℕ). kind (value_within deep) a.0.0 m.1 r) p.1 w))

tree_begins : (deep : ℕ) (t : Tree) (middle after rest : List ℕ) → marks t.marks middle after → kind (value_within deep) t.kind after rest → Opens opens_value middle
tree_begins deep t middle after rest m w = marks_open t.marks middle after m (kind_opens (value_within deep) t.kind after rest w)

value_dark : (bytes : List ℕ) → Opens opens_value bytes → Stops is_blank bytes
unfolding opens_value starts
value_dark bytes o = opens_dark opens_value bytes o refl refl

tree_complete : (deep : ℕ) (d : Deep deep) (t : Tree) (bytes rest : List ℕ) → value_within (suc deep) t bytes rest → tree_at (suc deep) bytes ≡ Some (t, rest)
unfolding tree_at value_within
tree_complete deep d t bytes rest (here, gap, (after, m, w)) =
    let o = tree_begins deep t here after rest m w in
    let k : marks_at (skip_blanks bytes) ≡ (t.marks, after) = ap marks_at (skips_to bytes here gap (value_dark here o)) ∙ marks_complete t.marks here after m (kind_opens (value_within deep) t.kind after rest w) in
    rw (k, (kind_agrees (tree_at deep) (value_within deep) d.inner).complete t.kind after rest w) refl

tree_shrinks : (deep : ℕ) (d : Deep deep) → Shrinks (value_within (suc deep))
unfolding value_within
tree_shrinks deep d = λ t bytes rest w. omega (arith, blanks_shrink bytes w.0 w.1, marks_shrink t.marks w.0 w.2.0 w.2.1, kind_shrinks (value_within deep) d.inner.reads.shrinks t.kind w.2.0 rest w.2.2)

tree_opens : (deep : ℕ) (d : Deep deep) (t : Tree) (bytes rest : List ℕ) → value_within (suc deep) t bytes rest → Opens opens_value (skip_blanks bytes)
unfolding value_within
tree_opens deep d t bytes rest (here, gap, (after, m, w)) =
    let o = tree_begins deep t here after rest m w in
    subst (λ (b : List ℕ). Opens opens_value b) (sym (skips_to bytes here gap (value_dark here o))) o

next_depth : (deep : ℕ) → Deep deep → Deep (suc deep)
next_depth deep d = record {
  inner = record {
    reads = record {
      agrees = record { sound = tree_sound deep d; complete = tree_complete deep d };
      shrinks = tree_shrinks deep d;
    };
    opens = tree_opens deep d;
  };
}

pub depths : (deep : ℕ) → Deep deep
depths zero = no_depth
depths (suc deep) = next_depth deep (depths deep)

pub value_agrees : Agrees Tree value_at value
value_agrees = (depths 64).inner.reads.agrees

value_opens : (t : Tree) (bytes rest : List ℕ) → value t bytes rest → Opens opens_value (skip_blanks bytes)
value_opens = (depths 64).inner.opens

pub value_goes : Goes Tree is_end value
value_goes = record {
  shrinks = λ t bytes rest w. (depths 64).inner.reads.shrinks t bytes rest w;
  begun = λ t bytes rest w. let some = opens_some opens_value (skip_blanks bytes) (value_opens t bytes rest w) in ne_eqb (length (skip_blanks bytes)) 0 (λ q. omega (arith, q, some));
}

-- ---- a value begins with no `$`

no_dollar : opens_value 36 ≡ false
unfolding opens_value starts
no_dollar = refl

pub value_head : (t : Tree) (bytes rest : List ℕ) → value t bytes rest → comes 36 bytes ≡ false
value_head t bytes rest w = opens_not opens_value (skip_blanks bytes) (value_opens t bytes rest w) 36 no_dollar
