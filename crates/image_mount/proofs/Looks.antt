-- What is known of a record or a dinode that was looked at.
use Rattle.std.proofs.Common.{◌≡◌, ℕ, ◌+◌, ◌*◌, ◌/◌, ◌^◌, ◌≤◌, true, false, List, sym, ap, subst, ◌∙◌}
use Rattle.std.proofs.lemmas.Bool.{both_ways}
use Rattle.gfs2_layout.specs.Inode.{dinode_in, depth_in, is_directory_in, is_hashed_in}
use Rattle.gfs2_layout.specs.Structures.{dinode_length}
use Rattle.gfs2_layout.specs.declared.dinode.Dinode.{Dinode}
use Rattle.glock_names.specs.declared.steps.Entry.{Entry}
use Rattle.image_model.specs.Claims.{every}
use Rattle.image_model.specs.Image.{Image}
use Rattle.image_model.proofs.Rows.{and_left}
use Rattle.dinode_tree.specs.Reading.{IsRightDinode}
use Rattle.image_mount.specs.Groups.{IsNamedIn}
use Rattle.image_mount.specs.Listing.{is_hashed_by}
use Rattle.image_mount.specs.Looks.{IsTrueEntry, HasTrueRecord, IsSized, IsTableSized, IsLookedAt}
use Rattle.image_mount.proofs.Causes.{hashed_as}

-- ---- sizes

pub linear_sized : (im : Image) (a size : ℕ) (d : Dinode) → d ≡ dinode_in (every im a) → size ≡ im.size → is_hashed_by d ≡ false → (d.height ≡ 0) × (dinode_length + d.size ≡ size) → IsSized im a
linear_sized im a size d read of plain both = record {
  linear = λ directory linear. record {
    height = ap (λ (x : Dinode). x.height) (sym read) ∙ both.0;
    size = ap (λ (x : Dinode). dinode_length + x.size) (sym read) ∙ both.1 ∙ of;
  };
  hashed = λ is. absurd (both_ways (is_hashed_in (every im a)) (hashed_as im a d false read plain) is);
}

pub table_sized : (im : Image) (a size depth : ℕ) (d : Dinode) → d ≡ dinode_in (every im a) → size ≡ im.size → depth ≡ d.depth → d.size ≡ 8 * 2 ^ depth → size / 16 ≤ 2 ^ depth → 2 ^ depth ≤ 8 * size
    → IsTableSized im a
table_sized im a size depth d read of deep bytes least greatest =
    let same : depth ≡ depth_in (every im a) = deep ∙ ap (λ (x : Dinode). x.depth) read in
    record {
      least = subst (λ n. im.size / 16 ≤ 2 ^ n) same (subst (λ s. s / 16 ≤ 2 ^ depth) of least);
      greatest = subst (λ n. 2 ^ n ≤ 8 * im.size) same (subst (λ s. 2 ^ depth ≤ 8 * s) of greatest);
      size = ap (λ (x : Dinode). x.size) (sym read) ∙ bytes ∙ ap (λ n. 8 * 2 ^ n) same;
    }

pub hashed_sized : (im : Image) (a size depth : ℕ) (d : Dinode) → d ≡ dinode_in (every im a) → size ≡ im.size → is_hashed_by d ≡ true → depth ≡ d.depth → d.size ≡ 8 * 2 ^ depth → size / 16 ≤ 2 ^ depth
    → 2 ^ depth ≤ 8 * size → IsSized im a
hashed_sized im a size depth d read of is deep bytes least greatest = record {
  linear = λ directory plain. absurd (both_ways (is_hashed_in (every im a)) plain (hashed_as im a d true read is));
  hashed = λ hashed. table_sized im a size depth d read of deep bytes least greatest;
}

-- a file has no size of a directory
pub file_sized : (im : Image) (a : ℕ) → is_directory_in (every im a) ≡ false → IsSized im a
file_sized im a file = record {
  linear = λ directory plain. absurd (both_ways (is_directory_in (every im a)) file directory);
  hashed = λ hashed. absurd (both_ways (is_directory_in (every im a)) file (and_left _ _ hashed));
}

-- of the two kinds of directories
pub either_sized : (im : Image) (a : ℕ) → (is_hashed_in (every im a) ≡ true → IsTableSized im a) → (is_hashed_in (every im a) ≡ false → IsSized im a) → IsSized im a
either_sized im a table plain = record {
  linear = λ directory linear. (plain linear).linear directory linear;
  hashed = table;
}

pub hashed_looked : (im : Image) (a : ℕ) → IsRightDinode (every im a) → is_hashed_in (every im a) ≡ true → IsTableSized im a → IsLookedAt im a
hashed_looked im a right hashed sized = record {
  dinode = right;
  sized = record { linear = λ directory linear. absurd (both_ways (is_hashed_in (every im a)) linear hashed); hashed = λ yes. sized };
}

-- ---- records

pub true_record : (im : Image) (a from : ℕ) (name : List ℕ) (entry : Entry) → IsNamedIn im a from name entry → IsTrueEntry im entry → HasTrueRecord im a name entry.addr
true_record im a from name entry is of = record {
  block = from;
  row = is.row;
  there = is.there;
  named = is.named;
  one = is.one;
  true_of = record { address = is.is.address; number = is.is.number ∙ of.number; kind = is.is.kind ∙ of.kind };
}
