-- The blocks of a disk in memory with what plans write over them.
use Rattle.std.proofs.Common.{◌≡◌, ◌++◌, ℕ, List, [], length, take, drop, ap, subst, ◌∙◌, arith}
use Rattle.std.proofs.Math.ListN.{drop_of_length-le}
use Rattle.std.proofs.lemmas.List.{append-nil, take_all}
use Rattle.std.specs.Prelude.{unwrap_or}
use Rattle.image_model.specs.Image.{image_of}
use Rattle.image_replays.specs.Replays.{put_by, put_over}
use Rattle.peer_replay.specs.declared.planned.Plan.{Plan}
use Rattle.shared_disk.specs.Blocks.{block_in}
use Rattle.shared_disk.specs.Disk.{DiskState}
use Rattle.disk_trees.specs.Reading.{AreFirstBlocks}

-- a disk that holds the image with what the plans write
abbrev pub over : DiskState → List Plan → DiskState
over s plans = record s { block_at = (put_over (image_of s) plans).at }

pub put_first : (s : DiskState) (plans : List Plan) (bytes new : List ℕ) → AreFirstBlocks s s.count bytes → length new ≡ length bytes
    → ((k : ℕ) → block_in s.size new k ≡ unwrap_or (put_by plans k) (block_in s.size bytes k)) → AreFirstBlocks (over s plans) s.count new
put_first s plans bytes new are long put = record {
  long = long ∙ are.long;
  each = λ tells b low. put b ∙ ap (unwrap_or (put_by plans b)) (are.each tells b low);
}

-- the same of what was read into memory
pub put_read : (s : DiskState) (plans : List Plan) (bytes row new : List ℕ) (size : ℕ) → size ≡ s.size → row ≡ bytes → AreFirstBlocks s s.count bytes → length new ≡ length row
    → ((k : ℕ) → block_in size new k ≡ unwrap_or (put_by plans k) (block_in size row k)) → AreFirstBlocks (over s plans) s.count new
put_read s plans bytes row new size same is are long put =
    put_first s plans bytes new are (long ∙ ap length is)
    (λ k. subst (λ n. block_in n new k ≡ unwrap_or (put_by plans k) (block_in n bytes k)) same (subst (λ r. block_in size new k ≡ unwrap_or (put_by plans k) (block_in size r k)) is (put k)))

-- a row that is as long as the list that it is written back to takes its place
pub written_back : (row items : List ℕ) (n : ℕ) → length row ≡ length items → n ≡ length items → take n (row ++ drop (length row) items) ≡ row
written_back row items n long all =
    let none : drop (length row) items ≡ [] = drop_of_length-le items (let same : length row ≡ length items = long in omega (arith, same)) in
    ap (λ r. take n (row ++ r)) none ∙ ap (take n) (append-nil row) ∙ take_all n row (let same : length row ≡ length items = long in let whole : n ≡ length items = all in omega (arith, same, whole))
