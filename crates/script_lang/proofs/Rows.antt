-- Worked rows of the grammar, which the checker computes.
use Rattle.std.proofs.Common.{◌≡◌, ℕ, List, [], ◌∷◌, ◌++◌, refl}
use Rattle.std.specs.Prelude.{codes}
use Rattle.std.specs.Fmt.{digits}
use Rattle.hex.specs.Hex.{encode_with}
use Rattle.hex.proofs.OnLiterals.{hex_on_literals}
use Rattle.file_tree.specs.declared.call.Call.TheVariants as calls
use Rattle.script_lang.specs.declared.script.Line.{Line}
use Rattle.script_lang.specs.declared.script.Line.TheVariants as line
use Rattle.script_lang.specs.declared.script.Fate.TheVariants.{Old, New, Torn}
use Rattle.script_lang.specs.Grammar.{ScriptRead, script_read, Script, Bad}

abbrev a : List (List ℕ)
a = codes "a" ∷ []

-- one client reads a file
row_reading : script_read (codes "nodes 1\nclient c on 1\nc: read /a 0 5\n")
    ≡ Script (record { nodes = 1; clients = record { name = codes "c"; node = 1 } ∷ []; armed = []; lines = line.Call 0 (calls.Read a 0 5) ∷ [] })
unfolding digits
row_reading = refl

-- the last newline may be missing
row_no_newline : script_read (codes "nodes 1\nclient c on 1\nc: list /") ≡ Script (record { nodes = 1; clients = record { name = codes "c"; node = 1 } ∷ []; armed = []; lines = line.Call 0 (calls.List []) ∷ [] })
unfolding digits
row_no_newline = refl

-- two nodes, and lines of each kind
row_lines : script_read (codes "nodes 2\nclient p on 1\nclient q on 2\ncrash 1 at 5 torn 40\np: create /f\nwait\nq: sync\ncrash 2\ncrash all\njoin 1\n")
    ≡ Script (record {
      nodes = 2;
      clients = record { name = codes "p"; node = 1 } ∷ record { name = codes "q"; node = 2 } ∷ [];
      armed = record { node = 1; write = 5; fate = Torn 40 } ∷ [];
      lines = line.Call 0 (calls.Create (codes "f" ∷ [])) ∷ line.Wait ∷ line.Call 1 calls.Sync ∷ line.Crash 4 ∷ line.Crash 6 ∷ line.Join 1 ∷ [];
    })
unfolding digits
row_lines = refl

-- where a script is refused
row_empty : script_read [] ≡ Bad 1 1
row_empty = refl

row_on : script_read (codes "nodes 1\nclient c o") ≡ Bad 2 10
unfolding digits
row_on = refl

row_no_client : script_read (codes "nodes 1\n") ≡ Bad 2 1
unfolding digits
row_no_client = refl

-- a missing word is refused one past the line's end
row_missing : script_read (codes "nodes 1\nclient c on") ≡ Bad 2 12
unfolding digits
row_missing = refl

-- two spaces leave an empty word
row_two_spaces : script_read (codes "nodes  1\n") ≡ Bad 1 7
unfolding digits
row_two_spaces = refl

row_leading_zero : script_read (codes "nodes 01\n") ≡ Bad 1 7
unfolding digits
row_leading_zero = refl

row_node : script_read (codes "nodes 1\nclient c on 2\n") ≡ Bad 2 13
unfolding digits
row_node = refl

row_name_twice : script_read (codes "nodes 1\nclient c on 1\nclient c on 1\n") ≡ Bad 3 8
unfolding digits
row_name_twice = refl

-- an empty line has one empty word
row_empty_line : script_read (codes "nodes 1\nclient c on 1\n\n") ≡ Bad 3 1
unfolding digits
row_empty_line = refl

-- a second crash at a write of one node could still be a crash line
row_armed_twice : script_read (codes "nodes 1\nclient c on 1\ncrash 1 at 1 old\ncrash 1 at 2 old\n") ≡ Bad 4 9
unfolding digits
row_armed_twice = refl

row_count : script_read (codes "nodes 1\nclient c on 1\nc: read /a 0 16385\n") ≡ Bad 3 14
unfolding digits
row_count = refl

-- ---- further good scripts

abbrev one_c : List ℕ
one_c = codes "nodes 1\nclient c on 1\n"

abbrev with_c : List Line → ScriptRead
with_c lines = Script (record { nodes = 1; clients = record { name = codes "c"; node = 1 } ∷ []; armed = []; lines = lines })

abbrev b : List (List ℕ)
b = codes "b" ∷ []

row_no_lines : script_read (codes "nodes 1\nclient c on 1") ≡ with_c []
unfolding digits
row_no_lines = refl

row_changes : script_read (one_c ++ codes "c: create /a\nc: mkdir /a/b\nc: unlink /a\nc: rmdir /\nc: truncate /a 4294967296\nc: rename /a /b\nc: sync\n")
    ≡ with_c (line.Call 0 (calls.Create a) ∷ line.Call 0 (calls.Mkdir (codes "a" ∷ codes "b" ∷ [])) ∷ line.Call 0 (calls.Unlink a) ∷ line.Call 0 (calls.Rmdir []) ∷ line.Call 0 (calls.Truncate a 4294967296) ∷ line.Call 0 (calls.Rename a b) ∷ line.Call 0 calls.Sync ∷ [])
unfolding digits
row_changes = refl

row_looks : script_read (one_c ++ codes "c: read /a 4294967296 16384\nc: dread / 0 0\nc: stat /b\nc: list /")
    ≡ with_c (line.Call 0 (calls.Read a 4294967296 16384) ∷ line.Call 0 (calls.Dread [] 0 0) ∷ line.Call 0 (calls.Stat b) ∷ line.Call 0 (calls.List []) ∷ [])
unfolding digits
row_looks = refl

row_writes : script_read (one_c ++ codes "c: write /a 0 00ff\nc: write /a 10 fill:61:3\n")
    ≡ with_c (line.Call 0 (calls.Write a 0 (0 ∷ 255 ∷ [])) ∷ line.Call 0 (calls.Write a 10 (codes "aaa")) ∷ [])
unfolding digits encode_with hex_on_literals
row_writes = refl

row_escapes : script_read (one_c ++ codes "c: rename /my%20file /%c8%25\n") ≡ with_c (line.Call 0 (calls.Rename (codes "my file" ∷ []) ((200 ∷ 37 ∷ []) ∷ [])) ∷ [])
unfolding digits encode_with
row_escapes = refl

-- a crash at a write of each fate, in the order of the script, and a crash line of the same node
row_armed : script_read (codes "nodes 3\nclient c on 3\ncrash 3 at 18446744073709551615 new\ncrash 1 at 1 old\ncrash 2 at 7 torn 4095\ncrash 1\n")
    ≡ Script (record {
      nodes = 3;
      clients = record { name = codes "c"; node = 3 } ∷ [];
      armed = record { node = 3; write = 18446744073709551615; fate = New } ∷ record { node = 1; write = 1; fate = Old } ∷ record { node = 2; write = 7; fate = Torn 4095 } ∷ [];
      lines = line.Crash 2 ∷ [];
    })
unfolding digits
row_armed = refl

-- eight nodes, all of which crash, and names that are other words of a script
row_all : script_read (codes "nodes 8\nclient all on 8\nclient nodes on 8\ncrash all\njoin 8\nnodes: sync\nall: sync\n")
    ≡ Script (record {
      nodes = 8;
      clients = record { name = codes "all"; node = 8 } ∷ record { name = codes "nodes"; node = 8 } ∷ [];
      armed = [];
      lines = line.Crash 510 ∷ line.Join 8 ∷ line.Call 1 calls.Sync ∷ line.Call 0 calls.Sync ∷ [];
    })
unfolding digits
row_all = refl

-- ---- further bad scripts, with the line and the column of the first wrong word

abbrev reads : List (List ℕ) → List ScriptRead
reads [] = []
reads (text ∷ texts) = script_read text ∷ reads texts

-- the same of one line behind the client `c` of one node
abbrev third_lines : List (List ℕ) → List ScriptRead
third_lines [] = []
third_lines (text ∷ texts) = script_read (one_c ++ text) ∷ third_lines texts

row_bad_nodes : reads (codes "node 1\n" ∷ codes "nodes" ∷ codes "nodes 0\n" ∷ codes "nodes 9\n" ∷ codes "nodes 1 2\n" ∷ codes "nodes x\n" ∷ codes "\nnodes 1\n" ∷ [])
    ≡ Bad 1 1 ∷ Bad 1 6 ∷ Bad 1 7 ∷ Bad 1 7 ∷ Bad 1 9 ∷ Bad 1 7 ∷ Bad 1 1 ∷ []
unfolding digits
row_bad_nodes = refl

row_bad_clients : reads (codes "nodes 1\nclient C on 1\n" ∷ codes "nodes 1\nclient wait on 1" ∷ codes "nodes 1\nclient c on 1 x" ∷ codes "nodes 1\nclient c at 1" ∷ codes "nodes 1\nclient 1c on 1" ∷ codes "nodes 1\nclient abcdefghijklmnopq on 1" ∷ codes "nodes 1\nclient" ∷ codes "nodes 1\nclient c on 0" ∷ codes "nodes 1\nclient  on 1" ∷ [])
    ≡ Bad 2 8 ∷ Bad 2 8 ∷ Bad 2 15 ∷ Bad 2 10 ∷ Bad 2 8 ∷ Bad 2 8 ∷ Bad 2 7 ∷ Bad 2 13 ∷ Bad 2 8 ∷ []
unfolding digits
row_bad_clients = refl

-- nothing else stands before the first client
row_bad_order : reads (codes "nodes 1\nc: sync\n" ∷ codes "nodes 1\nwait\n" ∷ codes "nodes 1\ncrash 1 at 1 old\n" ∷ codes "nodes 1\njoin 1" ∷ codes "nodes 1\nnodes 1" ∷ codes "nodes 1\n\nclient c on 1" ∷ [])
    ≡ Bad 2 1 ∷ Bad 2 1 ∷ Bad 2 1 ∷ Bad 2 1 ∷ Bad 2 1 ∷ Bad 2 1 ∷ []
unfolding digits
row_bad_order = refl

-- behind the first line no client is named and no crash at a write is ordered; behind such a crash no client is named
row_bad_late : third_lines (codes "c: sync\ncrash 1 at 1 old\n" ∷ codes "c: sync\nclient d on 1\n" ∷ codes "crash 1 at 1 old\nclient d on 1\n" ∷ codes "crash 1\ncrash 1 at 1 old\n" ∷ codes "wait\nwait\nwait 1" ∷ [])
    ≡ Bad 4 9 ∷ Bad 4 1 ∷ Bad 4 1 ∷ Bad 4 9 ∷ Bad 5 6 ∷ []
unfolding digits
row_bad_late = refl

row_bad_crashes : third_lines (codes "crash" ∷ codes "crash 2 at 1 old" ∷ codes "crash 0" ∷ codes "crash all 1" ∷ codes "crash all at 1 old" ∷ codes "crash 1 on" ∷ codes "crash 1 at" ∷ codes "crash 1 at 0 old" ∷ codes "crash 1 at 18446744073709551616 old" ∷ codes "crash 1 at 1" ∷ codes "crash 1 at 1 half" ∷ codes "crash 1 at 1 old 1" ∷ codes "crash 1 at 1 torn" ∷ codes "crash 1 at 1 torn 0" ∷ codes "crash 1 at 1 torn 4096" ∷ codes "crash 1 at 1 torn 1 1" ∷ [])
    ≡ Bad 3 6 ∷ Bad 3 7 ∷ Bad 3 7 ∷ Bad 3 11 ∷ Bad 3 11 ∷ Bad 3 9 ∷ Bad 3 11 ∷ Bad 3 12 ∷ Bad 3 12 ∷ Bad 3 13 ∷ Bad 3 14 ∷ Bad 3 18 ∷ Bad 3 18 ∷ Bad 3 19 ∷ Bad 3 19 ∷ Bad 3 21 ∷ []
unfolding digits
row_bad_crashes = refl

row_bad_joins : third_lines (codes "wait 1" ∷ codes "Wait" ∷ codes "join" ∷ codes "join 0" ∷ codes "join 2" ∷ codes "join all" ∷ codes "join 1 1" ∷ codes "d: sync" ∷ codes "C: sync" ∷ codes " c: sync" ∷ codes "c sync" ∷ codes "c:sync" ∷ [])
    ≡ Bad 3 6 ∷ Bad 3 1 ∷ Bad 3 5 ∷ Bad 3 6 ∷ Bad 3 6 ∷ Bad 3 6 ∷ Bad 3 8 ∷ Bad 3 1 ∷ Bad 3 1 ∷ Bad 3 1 ∷ Bad 3 1 ∷ Bad 3 1 ∷ []
unfolding digits
row_bad_joins = refl

row_bad_calls : third_lines (codes "c:" ∷ codes "c:  sync" ∷ codes "c: open /a" ∷ codes "c: sync /" ∷ codes "c: create" ∷ codes "c: mkdir a" ∷ codes "c: unlink /a%2F" ∷ codes "c: rmdir //" ∷ codes "c: stat /a /b" ∷ codes "c: list /.." ∷ codes "c: rename /a" ∷ codes "c: rename /%00 /b" ∷ codes "c: rename /a b" ∷ codes "c: rename /a /b /c" ∷ [])
    ≡ Bad 3 3 ∷ Bad 3 4 ∷ Bad 3 4 ∷ Bad 3 9 ∷ Bad 3 10 ∷ Bad 3 10 ∷ Bad 3 11 ∷ Bad 3 10 ∷ Bad 3 12 ∷ Bad 3 9 ∷ Bad 3 13 ∷ Bad 3 11 ∷ Bad 3 14 ∷ Bad 3 17 ∷ []
unfolding digits encode_with
row_bad_calls = refl

row_bad_numbers : third_lines (codes "c: read /a 4294967297 1" ∷ codes "c: read /a 00 1" ∷ codes "c: read /a 0" ∷ codes "c: dread /a 0 16385" ∷ codes "c: dread /a 0 1 2" ∷ codes "c: truncate /a 4294967297" ∷ codes "c: truncate /a +1" ∷ [])
    ≡ Bad 3 12 ∷ Bad 3 12 ∷ Bad 3 13 ∷ Bad 3 15 ∷ Bad 3 17 ∷ Bad 3 16 ∷ Bad 3 16 ∷ []
unfolding digits
row_bad_numbers = refl

row_bad_contents : third_lines (codes "c: write a 0 00" ∷ codes "c: write /a" ∷ codes "c: write /a 4294967297 00" ∷ codes "c: write /a 0" ∷ codes "c: write /a 0 full:61:1" ∷ codes "c: write /a 0 Fill:61:1 x" ∷ [])
    ≡ Bad 3 10 ∷ Bad 3 12 ∷ Bad 3 13 ∷ Bad 3 14 ∷ Bad 3 15 ∷ Bad 3 15 ∷ []
unfolding digits
row_bad_contents = refl

-- content in upper case, of half a byte, and fills of no byte, of too many, of another form
row_bad_hex : third_lines (codes "c: write /a 0 " ∷ codes "c: write /a 0 FF" ∷ codes "c: write /a 0 0" ∷ codes "c: write /a 0 fill:61:0" ∷ codes "c: write /a 0 fill:61:16385" ∷ codes "c: write /a 0 fill:61:01" ∷ codes "c: write /a 0 fill:6:1" ∷ codes "c: write /a 0 fill:6A:1" ∷ codes "c: write /a 0 fill:6161:1" ∷ codes "c: write /a 0 fill:61" ∷ codes "c: write /a 0 fill:61:1 x" ∷ [])
    ≡ Bad 3 15 ∷ Bad 3 15 ∷ Bad 3 15 ∷ Bad 3 15 ∷ Bad 3 15 ∷ Bad 3 15 ∷ Bad 3 15 ∷ Bad 3 15 ∷ Bad 3 15 ∷ Bad 3 15 ∷ Bad 3 25 ∷ []
unfolding digits encode_with hex_on_literals
row_bad_hex = refl
