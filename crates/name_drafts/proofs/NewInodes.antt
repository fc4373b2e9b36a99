-- What a new inode reads as, and the record of its name.
use Rattle.std.proofs.Common.{◌≡◌, ℕ, Bool, true, false, List, [], ◌∷◌, codes, refl, sym, ap, ◌∙◌, subst}
use Rattle.std.proofs.lemmas.List.Sorted.{IsPermutation-refl}
use Rattle.std.specs.List.Sorted.{IsPermutation}
use Rattle.file_tree.specs.Tree.{file, dir, none}
use Rattle.gfs2_layout.specs.Holding.{Holding}
use Rattle.gfs2_layout.specs.Inode.{Head, head_of}
use Rattle.gfs2_layout.specs.Records.{Record}
use Rattle.gfs2_layout.specs.declared.dinode.Dinode.{Dinode}
use Rattle.glock_names.specs.declared.steps.Entry.{Entry}
use Rattle.linear_dirs.specs.Shown.{record_for}
use Rattle.new_inodes.specs.New.{IsNewFile, IsNewDirectory, own_entry}
use Rattle.image_model.specs.Stands.{IsRecordOf, kind_of}
use Rattle.draft_changes.specs.Adding.{ReadsNew, empty_file, empty_directory}

-- a record that leads to an inode with this number, of this kind
leads_there : (heads : ℕ → Head) (b number kind : ℕ) (is_dir : Bool) (name : List ℕ) → heads b ≡ record { number = number; is_dir = is_dir } → kind ≡ kind_of (record { number = number; is_dir = is_dir })
    → IsRecordOf heads b (record_for name (record { number = number; addr = b; kind = kind }))
leads_there heads b number kind is_dir name head kinds = record { address = refl; number = sym (ap (λ (h : Head). h.number) head); kind = kinds ∙ ap kind_of (sym head) }

-- ---- a file

pub file_reads : (above : Head) (parent number time : ℕ) (h : Holding) → IsNewFile number h.own time h → ReadsNew above parent h (file [])
file_reads above parent number time h is = empty_file (ap (λ (x : Head). x.is_dir) is.head) (ap (λ (d : Dinode). d.size) is.dinode)

pub file_record : (number time : ℕ) (h : Holding) (name : List ℕ) → IsNewFile number h.own time h
    → IsRecordOf (λ b. head_of h) h.own (record_for name (record { number = number; addr = h.own; kind = 8 }))
file_record number time h name is = leads_there (λ b. head_of h) h.own number 8 false name is.head refl

-- ---- a directory

pub directory_record : (number time : ℕ) (parent : Entry) (h : Holding) (name : List ℕ) → IsNewDirectory number h.own parent time h
    → IsRecordOf (λ b. head_of h) h.own (record_for name (record { number = number; addr = h.own; kind = 4 }))
directory_record number time parent h name is = leads_there (λ b. head_of h) h.own number 4 true name is.head refl

pub directory_reads : (above : Head) (parent above_number number time : ℕ) (h : Holding) → above ≡ record { number = above_number; is_dir = true }
    → IsNewDirectory number h.own (record { number = above_number; addr = parent; kind = 4 }) time h → ReadsNew above parent h (dir none)
directory_reads above parent above_number number time h there is = empty_directory (record {
  directory = ap (λ (x : Head). x.is_dir) is.head;
  dot = dot;
  dots = dots;
  are = subst (λ xs. IsPermutation xs (dot ∷ (dots ∷ []))) (sym is.records) (IsPermutation-refl (dot ∷ (dots ∷ [])));
  dot_is = (refl, directory_record number time (record { number = above_number; addr = parent; kind = 4 }) h (codes ".") is);
  dots_is = (refl, leads_there (λ b. above) parent above_number 4 true (codes "..") there refl);
  entries = ap (λ (d : Dinode). d.entries) is.dinode;
  links = ap (λ (d : Dinode). d.nlink) is.dinode;
})
  where
    dot : Record
    dot = record_for (codes ".") (own_entry number h.own)

    dots : Record
    dots = record_for (codes "..") (record { number = above_number; addr = parent; kind = 4 })
