-- `cut::cut::cut` meets its contract: the root is cut as an entry. Assumes nothing.
use Rattle.std.proofs.Common.{◌<◌, sym, arith}
use mathlib.Core.Path.{subst}
use Rattle.rule.specs.Time.{END}
use Rattle.store.specs.Encoding.{Encodes}
use Rattle.store.proofs.Encoding.{from, readied}
use Rattle.cut.proofs.Splitting.{told}
use Rattle.cut.proofs.Roots.{cut_end, root_ready, root_cut, root_same, root_growable, root_two}
use Rattle.cut.proofs.cut.cut.Goals as goal

pub returns-then-t-eq-END : goal.returns-then-t-eq-END
returns-then-t-eq-END c X h r = subst (Encodes _ _) (sym (cut_end _ c.args.t X (omega (arith, c.if-t-eq-END.true)))) h

-- the root as an entry, of every image that the bytes encode
pub cut_entry-requires : goal.cut_entry-requires
cut_entry-requires c =
    readied c.requires
    (λ X h r. root_ready _ c.args.t X (c.head_of-h.ensures X h tt) c.root_entry.ensures (r.root (omega (arith, c.if-t-eq-END.false))))

-- and what it becomes
pub returns-in_default : goal.returns-in_default
returns-in_default c X h r =
    let inside : c.args.t < END = omega (arith, c.if-t-eq-END.false) in
    let head = c.head_of-h.ensures X h tt in
    let ready = root_ready _ c.args.t X head c.root_entry.ensures (r.root inside) in
    let grew = root_cut _ c.args.t X head c.root_entry.ensures (c.cut_entry.ensures X h ready) in
    root_same _ _ X inside (told c.in_default.is grew)

pub grow_root-requires : goal.grow_root-requires
grow_root-requires c =
    let inside : c.args.t < END = omega (arith, c.if-t-eq-END.false) in
    from c.requires
    (λ X h r.
    let head = c.head_of-h.ensures X h tt in
    let ready = root_ready _ c.args.t X head c.root_entry.ensures (r.root inside) in
    let grew = root_cut _ c.args.t X head c.root_entry.ensures (c.cut_entry.ensures X h ready) in
    let g = told c.in-Some.is grew in
    record { image = _; holds = g.holds; ready = root_growable _ _ X head g (r.root inside) })

pub returns-in-Some : goal.returns-in-Some
returns-in-Some c X h r =
    let inside : c.args.t < END = omega (arith, c.if-t-eq-END.false) in
    let head = c.head_of-h.ensures X h tt in
    let ready = root_ready _ c.args.t X head c.root_entry.ensures (r.root inside) in
    let grew = root_cut _ c.args.t X head c.root_entry.ensures (c.cut_entry.ensures X h ready) in
    let g = told c.in-Some.is grew in
    root_two _ _ X head g inside (c.grow_root.ensures _ g.holds (root_growable _ _ X head g (r.root inside)))
