-- `audit::verdict::sound_before` meets its contract: at each exit a part of soundness by counting fails, and those before it passed. Assumes
-- nothing.
use Rattle.std.proofs.Common.{◌≡◌, ◌+◌, ◌-◌, ◌&&◌, eqb, refl, sym, ◌∙◌, arith}
use Rattle.fit.proofs.Tests.{passes, fails}
use Rattle.soundness.specs.Counting.{chain_ends}
use Rattle.access.proofs.Laws.{opened, shut, opened_ranges, opened_size}
use Rattle.audit.proofs.Verdicts.{unsound_head, unsound_tree, sound_rest}
use Rattle.audit.proofs.verdict.sound_before.Goals as goal
use Rattle.audit.proofs.verdict.sound_before.Goals.{Joined-adds_up, then-adds_up, else-adds_up}

pub returns-in_default : goal.returns-in_default
returns-in_default c = unsound_head _ _ c.requires.2 (shut _ _ (sym c.in_default.is ∙ c.open_head.ensures))

pub audit_root-requires : goal.audit_root-requires
audit_root-requires c =
    (omega (arith, c.requires.0), c.requires.1, opened _ _ c.requires.2 (sym c.in-Some.is ∙ c.open_head.ensures))

-- what the code has found so far, in the definitions' words
pub returns-in_default-audit_root : goal.returns-in_default-audit_root
returns-in_default-audit_root c =
    let o = opened _ _ c.requires.2 (sym c.in-Some.is ∙ c.open_head.ensures) in
    unsound_tree (record { opened = o; answer = c.audit_root.ensures }) c.in_default-audit_root.is

pub adds_up-requires : goal.adds_up-requires
adds_up-requires c =
    let o = opened _ _ c.requires.2 (sym c.in-Some.is ∙ c.open_head.ensures) in
    omega (arith, (opened_ranges o).mark_least)

pub chain_ends-requires : goal.chain_ends-requires
chain_ends-requires c = opened_size (opened _ _ c.requires.2 (sym c.in-Some.is ∙ c.open_head.ensures))

pub never_used-requires : goal.never_used-requires
never_used-requires c =
    let o = opened _ _ c.requires.2 (sym c.in-Some.is ∙ c.open_head.ensures) in
    (c.requires.1, opened_size o, omega (arith, (opened_ranges o).mark_most, (opened_ranges o).pages_is))

-- what tree and chain come to
so_far : (c : Joined-adds_up) → let h = c.in-Some.h in
    c.if-adds_up.value ≡ eqb (c.in-Some-audit_root.tree + h.chain) (h.mark - 1) && chain_ends c.args.half c.args.img.now h.chain h.free
so_far c =
    elim c.if-adds_up.branch [
      | then-adds_up w ↦ w.value-is ∙ passes (sym c.adds_up.ensures ∙ w.if-adds_up.true) w.chain_ends.ensures
      | else-adds_up w ↦ w.value-is ∙ w.if-adds_up.false ∙ fails _ (sym c.adds_up.ensures ∙ w.if-adds_up.false)
    ]

pub returns-then-chain_ends : goal.returns-then-chain_ends
returns-then-chain_ends c =
    let o = opened _ _ c.requires.2 (sym c.in-Some.is ∙ c.open_head.ensures) in
    passes c.if-chain_ends.true refl
    ∙ sound_rest (record { opened = o; answer = c.audit_root.ensures }) c.in-Some-audit_root.tree c.in-Some-audit_root.is
    (so_far (goal.at.returns-then-chain_ends c).Joined-adds_up) c.never_used.ensures

pub returns-else-chain_ends : goal.returns-else-chain_ends
returns-else-chain_ends c =
    let o = opened _ _ c.requires.2 (sym c.in-Some.is ∙ c.open_head.ensures) in
    c.if-chain_ends.false ∙ fails _ c.if-chain_ends.false
    ∙ sound_rest (record { opened = o; answer = c.audit_root.ensures }) c.in-Some-audit_root.tree c.in-Some-audit_root.is
    (so_far (goal.at.returns-else-chain_ends c).Joined-adds_up) refl
