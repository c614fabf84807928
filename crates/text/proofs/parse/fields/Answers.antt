-- `text::parse::fields` meets its contract: `split` yields what the line is cut into. Assumes nothing.
use Rattle.std.proofs.Common.{rules, tests, refl, [], ◌∷◌}
use Rattle.calls.specs.Program.{line_from}
use Rattle.text.proofs.Laws.Lines.{split_yields, yielded, yielded_more}
use Rattle.text.proofs.parse.fields.Goals as goal

pub returns-in_err-v : goal.returns-in_err-v
unfolding line_from
returns-in_err-v c =
    let split = c.split-parts.ensures in
    let e = split_yields c.args.line.now split.runs split.rest split.done split.closure (λ x b q k. search (rules, tests)) in
    let h = yielded e (c.in_ok-sign.sign ∷ []) (c.next.new.self, c.in_ok-sign.ensures.steps, refl) c.in_err-v.ensures.steps in
    search (rules, h)

pub returns-in_err-s : goal.returns-in_err-s
unfolding line_from
returns-in_err-s c =
    let split = c.split-parts.ensures in
    let e = split_yields c.args.line.now split.runs split.rest split.done split.closure (λ x b q k. search (rules, tests)) in
    let h = yielded e (c.in_ok-sign.sign ∷ c.in_ok-v.v ∷ []) (c.next.new.self, c.in_ok-sign.ensures.steps, (c.next-2.new.self, c.in_ok-v.ensures.steps, refl)) c.in_err-s.ensures.steps in
    search (rules, h)

pub returns-in_err-e : goal.returns-in_err-e
unfolding line_from
returns-in_err-e c =
    let split = c.split-parts.ensures in
    let e = split_yields c.args.line.now split.runs split.rest split.done split.closure (λ x b q k. search (rules, tests)) in
    let h = yielded e (c.in_ok-sign.sign ∷ c.in_ok-v.v ∷ c.in_ok-s.s ∷ [])
    (c.next.new.self, c.in_ok-sign.ensures.steps, (c.next-2.new.self, c.in_ok-v.ensures.steps, (c.next-3.new.self, c.in_ok-s.ensures.steps, refl))) c.in_err-e.ensures.steps in
    search (rules, h)

pub returns-in-None : goal.returns-in-None
unfolding line_from
returns-in-None c =
    let split = c.split-parts.ensures in
    let e = split_yields c.args.line.now split.runs split.rest split.done split.closure (λ x b q k. search (rules, tests)) in
    yielded e (c.in_ok-sign.sign ∷ c.in_ok-v.v ∷ c.in_ok-s.s ∷ c.in_ok-e.e ∷ [])
    (c.next.new.self, c.in_ok-sign.ensures.steps, (c.next-2.new.self, c.in_ok-v.ensures.steps, (c.next-3.new.self, c.in_ok-s.ensures.steps, (c.next-4.new.self, c.in_ok-e.ensures.steps, refl))))
    c.in-None.ensures.steps

pub returns-in-Some : goal.returns-in-Some
returns-in-Some c =
    let split = c.split-parts.ensures in
    let e = split_yields c.args.line.now split.runs split.rest split.done split.closure (λ x b q k. search (rules, tests)) in
    yielded_more e c.in_ok-sign.sign c.in_ok-v.v c.in_ok-s.s c.in_ok-e.e c.in-Some.field-0 (
      c.next.new.self,
      c.in_ok-sign.ensures.steps,
      (
        c.next-2.new.self,
        c.in_ok-v.ensures.steps,
        (
          c.next-3.new.self,
          c.in_ok-s.ensures.steps,
          (
            c.next-4.new.self,
            c.in_ok-e.ensures.steps,
            (c.next-5.new.self, c.in-Some.ensures.steps, refl),
          ),
        ),
      ),
    )
