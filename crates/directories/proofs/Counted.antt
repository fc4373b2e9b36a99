-- Whether a hashed directory's dinode counts the records of its leaves.
use Rattle.std.proofs.Common.{◌≡◌, ◌≢◌, ℕ, true, false, List, length, sym, ap, ◌∙◌, subst, arith}
use Rattle.std.specs.Prelude.{◌==◌}
use Rattle.std.proofs.lemmas.Bool.Decides.{nat_tests}
use Rattle.gfs2_layout.specs.Holding.{Holding}
use Rattle.gfs2_layout.specs.Inode.{dinode_in, is_hashed_in}
use Rattle.glock_names.specs.Views.{Seen}
use Rattle.tree_tables.specs.Broken as leaves
use Rattle.tree_tables.specs.Leaves.{AreLeaves, records_among}
use Rattle.directories.specs.Shown.{IsBroken}
use Rattle.directories.specs.Shown as directory

pub equal : (a b : ℕ) → (a == b) ≡ true → a ≡ b
equal a b is = grind (arith, nat_tests)

pub differ : (a b : ℕ) → (a == b) ≡ false → a ≢ b
differ a b is = grind (arith, nat_tests)

pub counts_wrong : (v : Seen) (h : Holding) (dir : ℕ) (all : List ℕ) (entries : ℕ) → h.own ≡ dir → is_hashed_in h ≡ true → AreLeaves h all → entries ≡ (dinode_in h).entries → entries ≢ length (records_among h all) → IsBroken v h 12 dir
counts_wrong v h dir all entries own hashed are read other =
    subst (IsBroken v h 12) own (directory.IsBroken.in_hashed hashed (leaves.IsWrongIn.breaks 12 h.own (leaves.IsBroken.wrong_entries all are (λ e. other (read ∙ e)))))

pub counts_right : (h : Holding) (seen all : List ℕ) (entries : ℕ) → seen ≡ all → entries ≡ (dinode_in h).entries → entries ≡ length (records_among h seen) → (dinode_in h).entries ≡ length (records_among h all)
counts_right h seen all entries same read is = sym read ∙ is ∙ ap (λ xs. length (records_among h xs)) same
