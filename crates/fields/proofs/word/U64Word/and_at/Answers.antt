-- `fields::word::U64Word::and_at` meets its contract. Assumes nothing.
use Rattle.std.proofs.Common.{◌≡◌, refl, arith}
use Rattle.fields.specs.Bytes.{unused}
use Rattle.fields.specs.Numbers.{digits, u32_at}
use Rattle.fields.proofs.Laws.Digits.{bytes_of}
use Rattle.fields.proofs.Laws.Tests.{and_word}
use Rattle.fields.proofs.word.U64Word.and_at.Goals as goal

ones : digits 8 18446744073709551615 ≡ unused 8
unfolding digits unused
ones = refl

pub returns : goal.returns
unfolding u32_at
returns c = and_word 8 18446744073709551615 ones refl c.args.s.now c.args.o c.args.self _ (bytes_of _ c.type_inv.s) c.requires (omega arith) c.read_at.ensures
