-- What the sink of the trace and that of the output hold, as far as they tell, with the counts of their faults.
use Rattle.std.specs.Prelude.{ℕ, List, Option}

pub record Outputs : Type 0 where
  pub trace : Option (List ℕ)
  pub trace_faults : ℕ
  pub output : Option (List ℕ)
  pub output_faults : ℕ

abbrev pub outputs : Option (List ℕ) → ℕ → Option (List ℕ) → ℕ → Outputs
outputs traced failed printed broken = record { trace = traced; trace_faults = failed; output = printed; output_faults = broken }
