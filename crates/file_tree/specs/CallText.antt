-- How a call and a reply are written.
use Rattle.std.specs.Prelude.{ℕ, List, [], ◌∷◌, ◌++◌, length, codes}
use Rattle.std.specs.List.{flat_map}
use Rattle.hex.specs.Hex.{encode_lower}
use Rattle.text_words.specs.Words.{word, number}
use Rattle.file_tree.specs.PathText.{path_text, name_text}
use Rattle.file_tree.specs.declared.call.Call.{Call}
use Rattle.file_tree.specs.declared.call.Call.TheVariants as calls
use Rattle.file_tree.specs.declared.reply.Kind.{Kind}
use Rattle.file_tree.specs.declared.reply.Kind.TheVariants as kinds
use Rattle.file_tree.specs.declared.reply.Reply.{Reply}
use Rattle.file_tree.specs.declared.reply.Reply.TheVariants as replies

-- a call's word and its arguments; content is in hexadecimal
abbrev pub call_text : Call → List ℕ
call_text (calls.Create p) = codes "create" ++ word (path_text p)
call_text (calls.Mkdir p) = codes "mkdir" ++ word (path_text p)
call_text (calls.Unlink p) = codes "unlink" ++ word (path_text p)
call_text (calls.Rmdir p) = codes "rmdir" ++ word (path_text p)
call_text (calls.Read p at count) = codes "read" ++ word (path_text p) ++ number at ++ number count
call_text (calls.Dread p at count) = codes "dread" ++ word (path_text p) ++ number at ++ number count
call_text (calls.Write p at content) = codes "write" ++ word (path_text p) ++ number at ++ word (encode_lower content)
call_text (calls.Truncate p size) = codes "truncate" ++ word (path_text p) ++ number size
call_text (calls.Stat p) = codes "stat" ++ word (path_text p)
call_text (calls.List p) = codes "list" ++ word (path_text p)
call_text (calls.Rename p q) = codes "rename" ++ word (path_text p) ++ word (path_text q)
call_text calls.Sync = codes "sync"

abbrev pub data_text : List ℕ → List ℕ
data_text [] = codes "data -"
data_text (b ∷ bs) = codes "data" ++ word (encode_lower (b ∷ bs))

abbrev pub kind_text : Kind → List ℕ
kind_text kinds.File = codes "file"
kind_text kinds.Dir = codes "dir"

abbrev pub reply_text : Reply → List ℕ
reply_text replies.Ok = codes "ok"
reply_text (replies.Bytes content) = data_text content
reply_text (replies.Stat kind size) = codes "stat" ++ word (kind_text kind) ++ number size
reply_text (replies.Names names) = codes "names" ++ number (length names) ++ flat_map (λ name. word (name_text name)) names
reply_text replies.NotFound = codes "notfound"
reply_text replies.NotDir = codes "notdir"
reply_text replies.IsDir = codes "isdir"
reply_text replies.Exists = codes "exists"
reply_text replies.NotEmpty = codes "notempty"
reply_text replies.Inside = codes "inside"
reply_text replies.TooBig = codes "toobig"
reply_text replies.NoSpace = codes "nospace"
