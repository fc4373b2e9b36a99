-- A call's answer, where it is known which one it is.
use Rattle.std.proofs.Common.{◌≡◌, ℕ, [], Some, refl, sym, ap, subst}
use Rattle.std.specs.Prelude.{unwrap_or}
use Rattle.gfs2_layout.specs.Holding.{Holding, Itself}
use Rattle.glock_names.specs.Views.{Seen}
use Rattle.dinode_tree.specs.Reading.{IsNeeded}
use Rattle.dinode_tree.specs.Shown.{IsShown}
use Rattle.image_mount.specs.Searching.{LacksBlock}
use Rattle.image_mount.specs.Kept.{Kept, seen_of}
use Rattle.image_mount.specs.declared.stop.Stop.{Stop}
use Rattle.image_mount.specs.declared.stop.Stop.TheVariants as stop
use Rattle.glock_names.specs.declared.steps.Missing.{Missing}
pub use Rattle.dinode_tree.proofs.Stepping.{needed_at, answer_at}

-- ---- what a view shows by itself

-- an inode that has what the view has of each block, and else nothing
abbrev pub seen_in : Seen → ℕ → Holding
seen_in v a = record { size = v.size; count = 0; own = a; cell = λ b. Some (record { part = Itself; bytes = unwrap_or (v.block_at b) [] }) }

pub shown_by : (v : Seen) (a : ℕ) → IsShown v a (seen_in v a)
shown_by v a = record {
  own = refl;
  size = refl;
  dinode = refl;
  led_to = λ b n level first c leads. refl;
  same = λ b bytes some at. ap (λ o. unwrap_or o []) at;
}

-- a block that a call needs isn't kept
pub lacks_needed : (k : Kept) (h : Holding) (P : ℕ → Type 0) (least : ℕ) (m : Missing) (s : Stop) → s ≡ stop.Reads m.block m.from → IsNeeded (seen_of k) h P least m → LacksBlock k s
lacks_needed k h P least m s is needed = subst (LacksBlock k) (sym is) needed.absent
