-- Every structure is read as it was written.
use Rattle.std.proofs.Common.{◌≡◌, ℕ, zero, suc, ◌+◌, ◌-◌, ◌^◌, ◌≤◌, ◌<◌, List, [], ◌∷◌, ◌++◌, length, take, drop, replicate, refl, sym, ap, ◌∙◌, arith, length-append, length-drop}
use Rattle.std.specs.List.{All, AllByRecursion}
use Rattle.std.specs.Int.{w32, w64, to_be_bytes}
use Rattle.std.proofs.lemmas.List.{length-take-le, length-replicate}
use Rattle.std.proofs.lemmas.List.Elements.{All-from_recursion, recursion_from_All}
use Rattle.crc_words.specs.Remainder.{crc32_of}
use Rattle.gfs2_layout.specs.Bytes.{put_at, with_number}
use Rattle.gfs2_layout.specs.Checksum.{checksum_of}
use Rattle.gfs2_layout.specs.Fields.{with_fields}
use Rattle.gfs2_layout.specs.Structures.{answer}
use Rattle.gfs2_layout.specs.Writing.{header_fields, superblock_fields, texts_put, dinode_fields, dirent_fields, rindex_fields, group_fields, leaf_fields, log_fields, log_put, zeros_from, group_put}
use Rattle.gfs2_layout.specs.Laws.{HasTextLengths, StructuresReadBack}
use Rattle.gfs2_layout.specs.declared.superblock.SuperBlock.{SuperBlock}
use Rattle.gfs2_layout.specs.declared.group_header.GroupHeader.{GroupHeader}
use Rattle.gfs2_layout.specs.declared.log_header.LogHeader.{LogHeader}
use Rattle.gfs2_layout.proofs.FieldsInPlace.{length-fields, drop-fields}
use Rattle.gfs2_layout.proofs.InPlace.{is_width_32, length-put, length-with}
use Rattle.gfs2_layout.proofs.ReadBack.{header_back, dirent_back, dinode_back, HasLengths, texts_with, superblock_back}
use Rattle.gfs2_layout.proofs.ReadBackMore.{rindex_back, group_back, group_behind, leaf_back, log_back, log_behind}
use Rattle.gfs2_layout.proofs.ReadOwn.{header_reads, superblock_reads, dinode_reads, dirent_reads, rindex_reads, group_reads, leaf_reads, log_reads}

abbrev AreBytes : List ℕ → Type 0
AreBytes xs = AllByRecursion (λ b. b < 256) xs

-- ---- bytes stay bytes

bytes_append : (xs ys : List ℕ) → AreBytes xs → AreBytes ys → AreBytes (xs ++ ys)
bytes_append [] ys a b = b
bytes_append (x ∷ xs) ys a b = (a.0, bytes_append xs ys a.1 b)

bytes_take : (n : ℕ) (xs : List ℕ) → AreBytes xs → AreBytes (take n xs)
bytes_take zero xs a = tt
bytes_take (suc n) [] a = tt
bytes_take (suc n) (x ∷ xs) a = (a.0, bytes_take n xs a.1)

bytes_drop : (n : ℕ) (xs : List ℕ) → AreBytes xs → AreBytes (drop n xs)
bytes_drop zero xs a = a
bytes_drop (suc n) [] a = tt
bytes_drop (suc n) (x ∷ xs) a = bytes_drop n xs a.1

bytes_zeros : (n : ℕ) → AreBytes (replicate n 0)
bytes_zeros zero = tt
bytes_zeros (suc n) = (omega arith, bytes_zeros n)

bytes_put : (at : ℕ) (part xs : List ℕ) → AreBytes part → AreBytes xs → AreBytes (put_at at part xs)
bytes_put at part xs a b = bytes_append (take at xs) (part ++ drop (at + length part) xs) (bytes_take at xs b) (bytes_append part (drop (at + length part) xs) a (bytes_drop (at + length part) xs b))

with_32 : (at n : ℕ) (xs : List ℕ) → AreBytes xs → AreBytes (with_number w32 at n xs)
unfolding with_number
with_32 at n xs a = bytes_put at (to_be_bytes w32 n) xs (omega arith, (omega arith, (omega arith, (omega arith, tt)))) a

with_64 : (at n : ℕ) (xs : List ℕ) → AreBytes xs → AreBytes (with_number w64 at n xs)
unfolding with_number
with_64 at n xs a = bytes_put at (to_be_bytes w64 n) xs (omega arith, (omega arith, (omega arith, (omega arith, (omega arith, (omega arith, (omega arith, (omega arith, tt)))))))) a

module _ (fits : (bytes : List ℕ) → All (λ byte. byte < 256) bytes → crc32_of bytes < 2 ^ 32) where
  -- a log header's checksum has its width
  log_fits : (h : LogHeader) (bytes : List ℕ) → AreBytes bytes → checksum_of 48 44 (with_fields (log_fields h) (zeros_from 48 bytes)) < 2 ^ 32
  unfolding with_fields checksum_of
  log_fits h bytes all = fits (with_number w32 44 0 (take 48 (with_fields (log_fields h) (zeros_from 48 bytes))))
      (All-from_recursion (λ byte. byte < 256) (with_number w32 44 0 (take 48 (with_fields (log_fields h) (zeros_from 48 bytes)))) (with_32 44 0 (take 48 (with_fields (log_fields h) (zeros_from 48 bytes))) (bytes_take 48 (with_fields (log_fields h) (zeros_from 48 bytes)) written)))
    where
      base : AreBytes (zeros_from 48 bytes)
      base = bytes_append (take 48 bytes) (replicate (length bytes - 48) 0) (bytes_take 48 bytes all) (bytes_zeros (length bytes - 48))

      written : AreBytes (with_fields (log_fields h) (zeros_from 48 bytes))
      written = with_32 40 _ _ (with_32 36 _ _ (with_32 32 _ _ (with_64 24 _ _ (with_32 20 _ _ (with_32 16 _ _ (with_32 4 _ _ (with_32 0 _ _ base)))))))

-- ---- as many bytes as before

texts_long : (s : SuperBlock) (bytes : List ℕ) → 272 ≤ length bytes → HasTextLengths s → length (texts_put s bytes) ≡ length bytes
texts_long s bytes long are =
    let one : List ℕ = put_at 96 s.lock_protocol bytes in
    let two : List ℕ = put_at 160 s.lock_table one in
    let long_1 : length one ≡ length bytes = length-put 96 s.lock_protocol bytes (omega (arith, long, are.lock_protocol)) in
    let long_2 : length two ≡ length one = length-put 160 s.lock_table one (omega (arith, long, long_1, are.lock_table)) in
    length-put 256 s.uuid two (omega (arith, long, long_1, long_2, are.uuid)) ∙ long_2 ∙ long_1

group_long : (g : GroupHeader) (bytes : List ℕ) → 128 ≤ length bytes → length (group_put g bytes) ≡ length bytes
group_long g bytes long =
    let base : List ℕ = with_fields (group_fields g) bytes in
    let same : length base ≡ length bytes = length-fields (group_fields g) bytes (omega (arith, long)) in
    length-with w32 64 (checksum_of 128 64 base) base is_width_32 (omega (arith, same, long)) ∙ same

log_long : (h : LogHeader) (bytes : List ℕ) → 48 ≤ length bytes → length (log_put h bytes) ≡ length bytes
log_long h bytes long =
    let front : List ℕ = zeros_from 48 bytes in
    let front_long : length front ≡ length bytes = omega (arith, length-append (take 48 bytes) (replicate {A = ℕ} (length bytes - 48) 0), length-take-le 48 bytes long, length-replicate {A = ℕ} (length bytes - 48) 0, long) in
    let base : List ℕ = with_fields (log_fields h) front in
    let same : length base ≡ length bytes = length-fields (log_fields h) front (omega (arith, front_long, long)) ∙ front_long in
    length-with w32 44 (checksum_of 48 44 base) base is_width_32 (omega (arith, same, long)) ∙ same

lengths : (s : SuperBlock) → HasTextLengths s → HasLengths s
lengths s are = record { lock_protocol = are.lock_protocol; lock_table = are.lock_table; uuid = are.uuid }

-- ---- all of them

pub read_back : ((bytes : List ℕ) → All (λ byte. byte < 256) bytes → crc32_of bytes < 2 ^ 32) → StructuresReadBack
read_back fits = record {
  header = record {
    back = λ h bytes long all whole widths. header_back h bytes long widths;
    as_long = λ h bytes long whole. length-fields (header_fields h) bytes (omega (arith, long));
    behind = λ h bytes long whole. drop-fields (header_fields h) bytes (omega (arith, long)) 24 (omega arith);
    own = header_reads;
  };
  superblock = record {
    back = λ s bytes long all whole widths. superblock_back s bytes (texts_put s bytes) (texts_with s bytes (texts_put s bytes) refl long (lengths s whole)) widths;
    as_long = λ s bytes long whole. length-fields (superblock_fields s) (texts_put s bytes) (omega (arith, long, texts_long s bytes long whole)) ∙ texts_long s bytes long whole;
    behind = λ s bytes long whole. drop-fields (superblock_fields s) (texts_put s bytes) (omega (arith, long, texts_long s bytes long whole)) 272 (omega arith) ∙ (texts_with s bytes (texts_put s bytes) refl long (lengths s whole)).behind;
    own = superblock_reads;
  };
  dinode = record {
    back = λ d bytes long all whole widths. dinode_back d bytes long widths;
    as_long = λ d bytes long whole. length-fields (dinode_fields d) bytes (omega (arith, long));
    behind = λ d bytes long whole. drop-fields (dinode_fields d) bytes (omega (arith, long)) 232 (omega arith);
    own = dinode_reads;
  };
  dirent = record {
    back = λ d bytes long all whole fit. dirent_back d bytes long fit.widths ∙ ap (λ f. answer f d) fit.kind;
    as_long = λ d bytes long whole. length-fields (dirent_fields d) bytes (omega (arith, long));
    behind = λ d bytes long whole. drop-fields (dirent_fields d) bytes (omega (arith, long)) 40 (omega arith);
    own = dirent_reads;
  };
  rindex = record {
    back = λ r bytes long all whole widths. rindex_back r bytes long widths;
    as_long = λ r bytes long whole. length-fields (rindex_fields r) bytes (omega (arith, long));
    behind = λ r bytes long whole. drop-fields (rindex_fields r) bytes (omega (arith, long)) 96 (omega arith);
    own = rindex_reads;
  };
  group = record {
    back = λ g bytes long all whole widths. group_back g bytes long widths;
    as_long = λ g bytes long whole. group_long g bytes long;
    behind = λ g bytes long whole. group_behind g bytes long;
    own = group_reads;
  };
  leaf = record {
    back = λ l bytes long all whole widths. leaf_back l bytes long widths;
    as_long = λ l bytes long whole. length-fields (leaf_fields l) bytes (omega (arith, long));
    behind = λ l bytes long whole. drop-fields (leaf_fields l) bytes (omega (arith, long)) 104 (omega arith);
    own = leaf_reads;
  };
  log = record {
    back = λ h bytes long all whole widths. log_back h bytes long widths (log_fits fits h bytes (recursion_from_All (λ byte. byte < 256) bytes all));
    as_long = λ h bytes long whole. log_long h bytes long;
    behind = λ h bytes long whole. log_behind h bytes long ∙ ap (λ n. replicate n 0) (sym (length-drop 48 bytes));
    own = log_reads;
  };
}
