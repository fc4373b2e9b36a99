-- Where a write of the node failed.
use Rattle.std.specs.Prelude.{ℕ, ◌≡◌, List, Option, Some}
use Rattle.disk_items.specs.Deeds.{Wrote, deed_told}
use Rattle.log_values.specs.Log.{LogValue}
use Rattle.shared_disk.specs.Disk.{Operation, after_write}
use Rattle.trace_text.specs.declared.item.TraceItem.{TraceItem}
use Rattle.logged_steps.specs.Points.{Point}
use Rattle.logged_steps.specs.Steps.{Step, with_write}

-- All is as it was at the point; or as the step makes it that writes the block, but no item tells of that.
pub data FailsTo (time : ℕ) (p : Point) : Point → Type 0 where
  AsItWas : FailsTo time p p
  InAWrite : (b : ℕ) (bytes : List ℕ) (list : Option (List Operation)) (log : LogValue) (item : TraceItem) → deed_told item ≡ Some (Wrote 1 b) → Step time p (with_write p b bytes list log item)
      → FailsTo time p (record p { disk = after_write p.disk 1 b bytes; list = list; log = log })
