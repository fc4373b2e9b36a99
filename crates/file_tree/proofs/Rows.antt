-- Worked rows of the definitions, which the checker computes.
use Rattle.std.proofs.Common.{◌≡◌, ℕ, List, [], ◌∷◌, ◌++◌, refl}
use Rattle.std.specs.Prelude.{codes, replicate}
use Rattle.std.specs.Fmt.{digits}
use Rattle.hex.specs.Hex.{encode_with}
use Rattle.file_tree.specs.Tree.{Tree, file, dir, none, entry}
use Rattle.file_tree.specs.Apply.{apply}
use Rattle.file_tree.specs.PathText.{path_read, path_text, Reads, Faulty}
use Rattle.file_tree.specs.CallText.{call_text, reply_text}
use Rattle.file_tree.specs.declared.path.PathFault.TheVariants as fault
use Rattle.file_tree.specs.declared.call.Call.{Call}
use Rattle.file_tree.specs.declared.call.Call.TheVariants as calls
use Rattle.file_tree.specs.declared.reply.Kind.TheVariants.{File, Dir}
use Rattle.file_tree.specs.declared.reply.Reply.{Reply}
use Rattle.file_tree.specs.declared.reply.Reply.TheVariants as replies

abbrev a : List (List ℕ)
a = codes "a" ∷ []

abbrev d : List (List ℕ)
d = codes "d" ∷ []

abbrev d_a : List (List ℕ)
d_a = codes "d" ∷ codes "a" ∷ []

-- a call's replies, one after the other
abbrev replies_of : List Call → Tree → List Reply
replies_of [] t = []
replies_of (c ∷ cs) t = (apply c t).reply ∷ replies_of cs (apply c t).tree

-- one file `a` of the five bytes `hello`
abbrev hello : Tree
hello = dir (entry (codes "a") (file (codes "hello")) none)

row_reads : replies_of (calls.List [] ∷ calls.Read a 0 5 ∷ calls.Read a 1 9 ∷ calls.Read a 5 1 ∷ calls.Read (codes "b" ∷ []) 0 1 ∷ calls.Read [] 0 1 ∷ calls.List a ∷ calls.Stat a ∷ calls.Stat [] ∷ calls.Read (codes "a" ∷ codes "b" ∷ []) 0 1 ∷ []) hello
    ≡ replies.Names a ∷ replies.Bytes (codes "hello") ∷ replies.Bytes (codes "ello") ∷ replies.Bytes [] ∷ replies.NotFound ∷ replies.IsDir ∷ replies.NotDir ∷ replies.Stat File 5 ∷ replies.Stat Dir 1 ∷ replies.NotDir ∷ []
row_reads = refl

-- a directory and a file in it are made, written, looked at and removed
row_changes : replies_of (calls.Mkdir d ∷ calls.Create d_a ∷ calls.Write d_a 0 (codes "hello") ∷ calls.Stat d ∷ calls.Stat d_a ∷ calls.Rmdir d ∷ calls.Unlink d ∷ calls.Unlink d_a ∷ calls.Rmdir d ∷ calls.List [] ∷ []) (dir none)
    ≡ replies.Ok ∷ replies.Ok ∷ replies.Ok ∷ replies.Stat Dir 1 ∷ replies.Stat File 5 ∷ replies.NotEmpty ∷ replies.IsDir ∷ replies.Ok ∷ replies.Ok ∷ replies.Names [] ∷ []
row_changes = refl

-- a directory can't be moved into itself, and stays where it is if it is moved there
row_moves : replies_of (calls.Mkdir d ∷ calls.Rename d (codes "d" ∷ codes "e" ∷ []) ∷ calls.Rename d d ∷ calls.Rename d (codes "e" ∷ []) ∷ calls.Rmdir d ∷ calls.List [] ∷ []) (dir none)
    ≡ replies.Ok ∷ replies.Inside ∷ replies.Ok ∷ replies.Ok ∷ replies.NotFound ∷ replies.Names (codes "e" ∷ []) ∷ []
row_moves = refl

-- ---- rename, each case once

abbrev b : List (List ℕ)
b = codes "b" ∷ []

abbrev e : List (List ℕ)
e = codes "e" ∷ []

abbrev d_x : List (List ℕ)
d_x = codes "d" ∷ codes "x" ∷ []

-- files `a` and `b`, a directory `d` with a file `x`, and an empty one, `e`
abbrev some : Tree
some = dir (entry (codes "a") (file (codes "1")) (entry (codes "b") (file (codes "2"))
    (entry (codes "d") (dir (entry (codes "x") (file (codes "3")) none)) (entry (codes "e") (dir none) none))))

-- a file over a file, which is gone
row_file_over_file : apply (calls.Rename a b) some ≡ record {
  reply = replies.Ok;
  tree = dir (entry (codes "b") (file (codes "1"))
      (entry (codes "d") (dir (entry (codes "x") (file (codes "3")) none)) (entry (codes "e") (dir none) none)));
}
row_file_over_file = refl

-- a directory over an empty one
row_dir_over_empty : apply (calls.Rename d e) some ≡ record {
  reply = replies.Ok;
  tree = dir (entry (codes "a") (file (codes "1")) (entry (codes "b") (file (codes "2"))
      (entry (codes "e") (dir (entry (codes "x") (file (codes "3")) none)) none)));
}
row_dir_over_empty = refl

-- a file of another directory over a file
row_moved_up : apply (calls.Rename d_x a) some ≡ record {
  reply = replies.Ok;
  tree = dir (entry (codes "a") (file (codes "3")) (entry (codes "b") (file (codes "2"))
      (entry (codes "d") (dir none) (entry (codes "e") (dir none) none))));
}
row_moved_up = refl

-- a directory over one with names, a file over directories, a directory over a file; to itself, which a directory with names may be
row_moves_over : replies_of (calls.Rename e d ∷ calls.Rename a d ∷ calls.Rename a e ∷ calls.Rename d a ∷ calls.Rename a a ∷ calls.Rename d d ∷ []) some
    ≡ replies.NotEmpty ∷ replies.IsDir ∷ replies.IsDir ∷ replies.NotDir ∷ replies.Ok ∷ replies.Ok ∷ []
row_moves_over = refl

-- below itself, whether the parent is there or not; over what it lies in, as a file and as a directory
row_moves_inside : replies_of (calls.Rename d d_a ∷ calls.Rename d (codes "d" ∷ codes "y" ∷ codes "z" ∷ []) ∷ calls.Rename a (codes "a" ∷ codes "y" ∷ []) ∷ calls.Rename d_x d ∷ calls.Mkdir (codes "d" ∷ codes "f" ∷ []) ∷ calls.Rename (codes "d" ∷ codes "f" ∷ []) d ∷ []) some
    ≡ replies.Inside ∷ replies.Inside ∷ replies.Inside ∷ replies.IsDir ∷ replies.Ok ∷ replies.NotEmpty ∷ []
row_moves_inside = refl

-- the walk to the first path comes first, then the one to the second one's parent
row_moves_past : replies_of (calls.Rename (codes "y" ∷ []) (codes "y" ∷ []) ∷ calls.Rename (codes "y" ∷ []) (codes "z" ∷ codes "z" ∷ []) ∷ calls.Rename a (codes "y" ∷ codes "z" ∷ []) ∷ calls.Rename a (codes "b" ∷ codes "z" ∷ []) ∷ calls.Rename a (codes "b" ∷ codes "z" ∷ codes "z" ∷ []) ∷ []) some
    ≡ replies.NotFound ∷ replies.NotFound ∷ replies.NotFound ∷ replies.NotDir ∷ replies.NotDir ∷ []
row_moves_past = refl

-- what is done to the root or where a name is there already
row_root : replies_of (calls.Create [] ∷ calls.Unlink [] ∷ calls.Rmdir [] ∷ calls.Write [] 0 (codes "x") ∷ calls.Truncate [] 0 ∷ calls.Rename [] a ∷ calls.Rename a [] ∷ calls.Create a ∷ calls.Mkdir a ∷ calls.Rmdir a ∷ calls.Sync ∷ []) hello
    ≡ replies.Exists ∷ replies.IsDir ∷ replies.Inside ∷ replies.IsDir ∷ replies.IsDir ∷ replies.Inside ∷ replies.Exists ∷ replies.Exists ∷ replies.Exists ∷ replies.NotDir ∷ replies.Ok ∷ []
row_root = refl

-- a write past the end leaves zeros between; a truncation cuts or adds zeros; no file passes the limit
row_hole : (apply (calls.Write a 7 (codes "x")) hello).tree ≡ dir (entry (codes "a") (file (codes "hello" ++ 0 ∷ 0 ∷ codes "x")) none)
row_hole = refl

row_cut : replies_of (calls.Truncate a 2 ∷ calls.Truncate a 4 ∷ calls.Dread a 0 9 ∷ calls.Truncate a 67108865 ∷ calls.Write a 67108864 (codes "x") ∷ []) hello
    ≡ replies.Ok ∷ replies.Ok ∷ replies.Bytes (codes "he" ++ 0 ∷ 0 ∷ []) ∷ replies.TooBig ∷ replies.TooBig ∷ []
row_cut = refl

-- names are listed in rising byte order, a shorter name before a longer one that begins with it
row_order : replies_of (calls.Create (codes "b" ∷ []) ∷ calls.Create (codes "ab" ∷ []) ∷ calls.Create (codes "a" ∷ []) ∷ calls.Create ((200 ∷ []) ∷ []) ∷ calls.List [] ∷ []) (dir none)
    ≡ replies.Ok ∷ replies.Ok ∷ replies.Ok ∷ replies.Ok ∷ replies.Names (codes "a" ∷ codes "ab" ∷ codes "b" ∷ (200 ∷ []) ∷ []) ∷ []
row_order = refl

-- how paths are written and read
row_path_text : path_text (codes "my file" ∷ (200 ∷ 37 ∷ []) ∷ []) ≡ codes "/my%20file/%c8%25"
unfolding encode_with
row_path_text = refl

row_path : path_read (codes "/d/a") ≡ Reads d_a
row_path = refl

row_root_path : path_read (codes "/") ≡ Reads []
row_root_path = refl

row_escape : path_read (codes "/my%20file") ≡ Reads (codes "my file" ∷ [])
unfolding encode_with
row_escape = refl

row_no_slash : path_read (codes "a") ≡ Faulty fault.NoSlash
row_no_slash = refl

row_empty_name : path_read (codes "/d//a") ≡ Faulty (fault.EmptyName 3)
row_empty_name = refl

row_slash_at_end : path_read (codes "/d/") ≡ Faulty (fault.EmptyName 3)
row_slash_at_end = refl

row_bad_byte : path_read (codes "/a b") ≡ Faulty (fault.BadByte 2)
row_bad_byte = refl

-- upper-case digits, a byte that is not written so, a zero byte, too few digits
row_upper_case : path_read (codes "/%C8") ≡ Faulty (fault.BadEscape 1)
unfolding encode_with
row_upper_case = refl

row_needless : path_read (codes "/a%61") ≡ Faulty (fault.BadEscape 2)
unfolding encode_with
row_needless = refl

row_zero : path_read (codes "/%00") ≡ Faulty (fault.BadEscape 1)
unfolding encode_with
row_zero = refl

row_cut_short : path_read (codes "/%2") ≡ Faulty (fault.BadEscape 1)
row_cut_short = refl

row_dots : path_read (codes "/a/../b") ≡ Faulty (fault.Dots 3)
row_dots = refl

row_long_name : path_read (47 ∷ replicate 256 97) ≡ Faulty (fault.LongName 256)
row_long_name = refl

-- how calls and replies are written
row_read_text : call_text (calls.Read a 0 5) ≡ codes "read /a 0 5"
unfolding digits
row_read_text = refl

row_write_text : call_text (calls.Write a 7 (0 ∷ 255 ∷ [])) ≡ codes "write /a 7 00ff"
unfolding digits encode_with
row_write_text = refl

row_data_text : reply_text (replies.Bytes (codes "hello")) ≡ codes "data 68656c6c6f"
unfolding encode_with
row_data_text = refl

row_no_data : reply_text (replies.Bytes []) ≡ codes "data -"
row_no_data = refl

row_names_text : reply_text (replies.Names (codes "a" ∷ codes "b c" ∷ [])) ≡ codes "names 2 a b%20c"
unfolding digits encode_with
row_names_text = refl

row_stat_text : reply_text (replies.Stat File 5) ≡ codes "stat file 5"
unfolding digits
row_stat_text = refl
