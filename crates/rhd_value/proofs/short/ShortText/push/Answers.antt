use Rattle.std.specs.Prelude.{◌+◌, ◌-◌, ◌≡◌, ◌++◌, take, length, refl}
use Rattle.std.proofs.Common.{arith}
use Rattle.std.proofs.lemmas.Slice.{take-put_mid}
use Rattle.std.proofs.lemmas.Str.{IsUtf8-had, IsUtf8-append}
use Rattle.rhd_value.proofs.short.ShortText.push.Goals as goal
use borrow.Rule.Slice.PartMut.{put_mid}

pub invariant_of-self : goal.invariant_of-self
invariant_of-self c =
    let bytes = c.self.inside.bytes in
    let len = c.self.inside.len in
    let all = len + length c.args.text.now in
    let same : c.copy_from_slice.new.self ≡ c.args.text.now = search (c.copy_from_slice.ensures.after, c.as_bytes.ensures.value) in
    let front : take all (put_mid len (all - len) bytes c.copy_from_slice.new.self) ≡ take len bytes ++ c.args.text.now =
    rw same (take-put_mid len (all - len) bytes c.args.text.now all refl (omega (arith, c.self.invariant.0))) in
    (omega (arith, c.if-text-start.false, c.self.invariant.0), ∣ rw front (IsUtf8-append _ _ (IsUtf8-had _ c.self.invariant.1) c.utf8.text) ∣₁)
