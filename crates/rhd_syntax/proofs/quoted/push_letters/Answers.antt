use Rattle.rhd_syntax.proofs.LetterRuns.{letters_front}
use Rattle.rhd_syntax.proofs.quoted.push_letters.Goals as goal

pub returns-clause-same : goal.returns-clause-same
returns-clause-same c = rw (c.in_ok-extend_from_slice.ensures.items, c.split_at.ensures.front, c.split_at.ensures.back, c.letters_len.ensures.length) (letters_front c.args.quote c.args.text.now.items c.args.bytes.now)
