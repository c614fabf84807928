-- `fit::head::ranges_ok` meets its contract: it is the definition, but for the order of its brackets. Assumes nothing.
use mathlib.Core.Bool.{and_assoc}
use Rattle.std.proofs.Common.{◌≡◌, ◌&&◌, leb, ltb, rules}
use Rattle.page.specs.Fit.{ranges_ok}
use Rattle.fit.proofs.head.ranges_ok.Goals as goal

pub returns : goal.returns
unfolding ranges_ok
returns c =
    let h = c.args.h in
    let n = c.args.pages in
    let height : c.contains.result ≡ (leb 1 h.height && leb h.height 10) =
    rw (c.contains.ensures.value) (search (rules, c.new.ensures.start, c.new.ensures.end, c.new.ensures.exhausted)) in
    let root : c.contains-2.result ≡ (leb 1 h.root && ltb h.root n) = rw (c.contains-2.ensures.value) (search rules) in
    let mark : c.contains-3.result ≡ (leb 2 h.mark && leb h.mark n) =
    rw (c.contains-3.ensures.value) (search (rules, c.new-2.ensures.start, c.new-2.ensures.end, c.new-2.ensures.exhausted)) in
    rw (height, root, mark, c.kind_ok.ensures, c.window_ok.ensures) (simp and_assoc)
