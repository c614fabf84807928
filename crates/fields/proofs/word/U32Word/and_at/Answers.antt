-- `fields::word::U32Word::and_at` meets its contract. Assumes nothing.
use Rattle.std.proofs.Common.{◌≡◌, refl, arith}
use Rattle.fields.specs.Bytes.{unused}
use Rattle.fields.specs.Numbers.{digits, u32_at}
use Rattle.fields.proofs.Laws.Digits.{bytes_of}
use Rattle.fields.proofs.Laws.Tests.{and_word}
use Rattle.fields.proofs.word.U32Word.and_at.Goals as goal

ones : digits 4 4294967295 ≡ unused 4
unfolding digits unused
ones = refl

pub returns : goal.returns
unfolding u32_at
returns c = and_word 4 4294967295 ones refl c.args.s.now c.args.o c.args.self _ (bytes_of _ c.type_inv.s) c.requires (omega arith) c.read_at.ensures
