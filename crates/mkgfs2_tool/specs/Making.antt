-- When an image is made, and when not.
use Rattle.std.specs.Prelude.{ℕ, ⊤, ◌≡◌, ◌^◌, ◌<◌, ◌≤◌, ◌&&◌, ◌⊎◌, Bool, nat_le, if◌then◌else◌, Option, None, Some, IfSome}
use Rattle.profile_limits.specs.Limits.{least_journal_blocks, most_blocks, most_groups, most_journal_blocks, most_journals}
use Rattle.mkgfs2_tool.specs.Groups.{data_blocks, last_group, all_data}
use Rattle.mkgfs2_tool.specs.Order.{taken}
use Rattle.mkgfs2_tool.specs.declared.files.Part.{Part}
use Rattle.mkgfs2_tool.specs.declared.files.Part.TheVariants.{Top, Pointers, Content}
use Rattle.mkgfs2_tool.specs.declared.order.Use.{Use}
use Rattle.mkgfs2_tool.specs.declared.order.Use.TheVariants.{GroupList, Journal}
use Rattle.mkgfs2_tool.specs.declared.options.MakeOptions.{MakeOptions}
use Rattle.mkgfs2_tool.specs.declared.options.Opt.{Opt}
use Rattle.fault_counts.specs.Causes.{WentUp}
use Rattle.mkgfs2_tool.specs.declared.options.MakeFault.{MakeFault}
use Rattle.mkgfs2_tool.specs.declared.options.MakeFault.TheVariants.{DeviceFault}
use Rattle.mkgfs2_tool.specs.declared.options.Opt.TheVariants as opt
use Rattle.mkgfs2_tool.specs.declared.plan.Plan.{Plan}

abbrev pub is_between : ℕ → ℕ → ℕ → Bool
is_between low high n = nat_le low n && nat_le n high

-- the first of the numbers that is outside its limits
abbrev pub bad_option : MakeOptions → Option Opt
bad_option o =
    if is_between 1 most_journals o.journals then
    (if is_between least_journal_blocks most_journal_blocks o.journal_blocks then (if is_between 1 most_groups o.groups then None else Some opt.Groups) else Some opt.JournalBlocks)
    else Some opt.Journals

-- what a device of so many blocks of this size is to become
abbrev pub plan_of : ℕ → ℕ → MakeOptions → Plan
plan_of size count o = record { size = size; count = count; journals = o.journals; journal_blocks = o.journal_blocks; groups = o.groups; uuid = o.uuid; time = o.time }

-- a plan is of one of the four block sizes, and its numbers are within their limits
pub record IsPlan (p : Plan) : Type 0 where
  pub size : (p.size ≡ 512) ⊎ ((p.size ≡ 1024) ⊎ ((p.size ≡ 2048) ⊎ (p.size ≡ 4096)))
  pub count : p.count < 2 ^ 48
  pub some_journals : 1 ≤ p.journals
  pub journals : p.journals ≤ most_journals
  pub some_journal_blocks : least_journal_blocks ≤ p.journal_blocks
  pub journal_blocks : p.journal_blocks ≤ most_journal_blocks
  pub some_groups : 1 ≤ p.groups
  pub groups : p.groups ≤ most_groups

-- a plan of an image that fits its device
pub record IsFitting (p : Plan) : Type 0 where
  pub plan : IsPlan p
  pub count : p.count ≤ most_blocks
  pub first : 4 ≤ data_blocks p 0
  pub last : 4 ≤ data_blocks p (last_group p)
  pub room : taken p ≤ all_data p

-- a part has one of the levels below the dinode, and its place is small
abbrev pub IsPartOf : Part → Type 0
IsPartOf Top = ⊤
IsPartOf (Pointers level index) = (1 ≤ level) × (level ≤ 3) × (index < 2 ^ 38)
IsPartOf (Content n) = n < 2 ^ 38

abbrev pub IsUseOf : Use → Type 0
IsUseOf (GroupList part) = IsPartOf part
IsUseOf (Journal j part) = (j < most_journals) × IsPartOf part
IsUseOf _ = ⊤

-- a fault of the disk, told with the block, if it was at one, and with the rise of node 0's count
abbrev pub IsFaultOf : ℕ → (ℕ → ℕ) → (ℕ → ℕ) → MakeFault → Type 0
IsFaultOf count before now (DeviceFault block x y) = WentUp (before 0) (now 0) x y × IfSome block (λ b. b < count)
IsFaultOf count before now _ = ⊥
