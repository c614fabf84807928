-- What a function of a cycle of calls may take for granted where the cycle is closed by a measure. Assumes nothing.
use Prim.Native.Nat.{ℕ, ◌<◌}
use mathlib.Core.List.{List}
use borrow.Fn.Kind.{ParamKind}
use borrow.Fn.Kinds.{In}
use borrow.Fn.PlainCycle.{Measures, is, falls, and}

-- what it is given at the measure t
abbrev pub at_measure : (n : ℕ) (ps : List (ParamKind n)) → Measures n ps ℕ → In n ps → ℕ → In n ps
at_measure n ps μ pre t = and n ps (is n ps μ t) pre

-- what a call of it asks below t
abbrev pub below_measure : (n : ℕ) (ps : List (ParamKind n)) → Measures n ps ℕ → In n ps → ℕ → In n ps
below_measure n ps μ pre t = and n ps (falls n ps ◌<◌ μ t) pre
