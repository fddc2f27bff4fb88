-- How a reply is written: a line that ends with a line feed.
use Rattle.std.specs.Prelude.{ℕ, Bool, true, false, ◌*◌, ◌-◌, replicate, List, [], ◌∷◌, ◌++◌, Option, Some, None, Result, Ok, Err, codes}
use Rattle.std.specs.List.{flat_map}
use Rattle.std.specs.Fmt.{decimal}
use Rattle.rhd_value.specs.Tree.{Bytes, Tree}
use Rattle.rhd_value.specs.declared.fault.EvalAltResult.{EvalAltResult}
use Rattle.rhd_value.specs.Fault.{Fault, function_not_found, dot_expr, indexing_type, parsing, non_pure, data_race, mismatch_output, mismatch_data, too_many_operations, stack_overflow, data_too_large, module_not_found, in_module, runtime}
use Rattle.rhd_value.specs.Seen.{fault_seen}
use Rattle.rhd_value.specs.declared.fault.ParseErrorType.{ParseErrorType}
use Rattle.rhd_value.specs.declared.fault.ParseErrorType.TheVariants.{Reserved, MalformedIndexExpr}
use Rattle.rhd_func.specs.declared.func.RhaiFunc.{RhaiFunc}
use Rattle.rhd_func.specs.declared.func.RhaiFunc.TheVariants as funcs
use Rattle.rhd_func.specs.declared.request.CallRequest.{CallRequest}
use Rattle.rhd_func.specs.declared.request.CallRequest.TheVariants.{Named, Qualified}
use Rattle.rhd_decl.specs.declared.fault.DeclFault.{DeclFault}
use Rattle.rhd_decl.specs.declared.fault.DeclFault.TheVariants.{HashCollision, IndexerNotAllowed, NotCallable, UnknownNumber, OutOfMemory}
use Rattle.rhd_call.specs.declared.pick.Layer.{Layer}
use Rattle.rhd_call.specs.declared.pick.Layer.TheVariants.{Library, Global, Import, Static, Builtin}
use Rattle.rhd_call.specs.declared.pick.Pick.{Pick}
use Rattle.rhd_call.specs.declared.node.Whose.{Whose}
use Rattle.rhd_call.specs.declared.node.Whose.TheVariants as whose
use Rattle.rhd_call.specs.declared.node.CallNode.{CallNode, CallNode'}
use Rattle.rhd_call.specs.declared.node.Nodes.{Nodes, Nodes', Row_of-CallNode, end_of-CallNode, more_of-CallNode}
use Rattle.rhd_call.specs.declared.reply.Reply.{Reply}
use Rattle.rhd_call.specs.declared.reply.Reply.TheVariants.{Done, Made, Fault as failed, Refused, Count, Truth, Called}
use Rattle.rhd_print.specs.PrintedTexts.{quoted}
use Rattle.rhd_print.specs.PrintedValues.{spelled}
use Rattle.rhd_print.specs.PrintedKeys.{path_name, key_text}

-- what is wrong with a name or with the arguments of an indexer or a property
unfoldable pub spelled_error : ParseErrorType → List ℕ
spelled_error (Reserved name) = codes "reserved " ++ quoted name
spelled_error (MalformedIndexExpr text) = codes "index " ++ quoted text

-- the number of a fault and its parts; a fault that stands inside another is in brackets
unfoldable pub spelled_fault : Fault → List ℕ
spelled_fault (function_not_found text pos) = codes "1 " ++ quoted text
spelled_fault (dot_expr text pos) = codes "2 " ++ quoted text
spelled_fault (indexing_type text pos) = codes "3 " ++ quoted text
spelled_fault (parsing error pos) = codes "4 " ++ spelled_error error
spelled_fault (non_pure name pos) = codes "5 " ++ quoted name
spelled_fault (data_race text pos) = codes "6 " ++ quoted text
spelled_fault (mismatch_output wanted got pos) = codes "7 " ++ quoted wanted ++ codes " " ++ quoted got
spelled_fault (mismatch_data wanted got pos) = codes "8 " ++ quoted wanted ++ codes " " ++ quoted got
spelled_fault (too_many_operations pos) = codes "9"
spelled_fault (stack_overflow pos) = codes "10"
spelled_fault (data_too_large text pos) = codes "11 " ++ quoted text
spelled_fault (module_not_found path pos) = codes "12 " ++ quoted path
spelled_fault (in_module path fault pos) = codes "13 " ++ quoted path ++ codes " (" ++ spelled_fault fault ++ codes ")"
spelled_fault (runtime text pos) = codes "15 " ++ quoted text

-- the number of a refusal and its parts
unfoldable pub spelled_refusal : DeclFault → List ℕ
spelled_refusal (HashCollision held new) = codes "1 " ++ key_text held ++ codes " " ++ key_text new
spelled_refusal (IndexerNotAllowed key) = codes "2 " ++ key_text key
spelled_refusal NotCallable = codes "3"
spelled_refusal (UnknownNumber number length) = codes "4 " ++ decimal number ++ codes " " ++ decimal length
spelled_refusal OutOfMemory = codes "5"

-- what a call is called: its name, after the path to its module and `::`, if it has one
abbrev pub label : CallRequest → List ℕ
label (Named name token native_only shape want pos) = name
label (Qualified path name shape pos) = flat_map path_name path ++ name

-- where a function was found
unfoldable pub layer_text : Layer → List ℕ
layer_text (Library n) = codes "lib" ++ decimal n
layer_text (Global n) = codes "global" ++ decimal n
layer_text (Import n) = codes "import" ++ decimal n
layer_text (Static n) = codes "static" ++ decimal n
layer_text Builtin = codes "builtin"

-- a native by its number, a script by that of its body; a function that iterates by its number, though it is never picked
unfoldable pub func_text : RhaiFunc → List ℕ
func_text (funcs.Pure id context pure volatile) = codes "#" ++ decimal id.0
func_text (funcs.Method id context pure volatile) = codes "#" ++ decimal id.0
func_text (funcs.Iterator id) = codes "#" ++ decimal id.0
func_text (funcs.Plugin id) = codes "#" ++ decimal id.0
func_text (funcs.StaticPlugin id) = codes "#" ++ decimal id.0
func_text (funcs.Script def env) = codes "@" ++ decimal def.body.0

-- the function that was picked, if one was
unfoldable pub pick_text : Option Pick → List ℕ
pick_text None = codes "-"
pick_text (Some p) = layer_text p.layer ++ func_text p.func

-- whose the answer or the fault is
abbrev pub whose_text : Whose → List ℕ
whose_text whose.Call = codes "call"
whose_text whose.Called = codes "called"
whose_text whose.Host = codes "host"

-- the answer or the fault
unfoldable pub result_text : Result Tree EvalAltResult → List ℕ
result_text (Ok t) = codes "= " ++ spelled t
result_text (Err fault) = codes "! " ++ spelled_fault (fault_seen fault)

-- the first argument by reference, if there is one
unfoldable pub after_text : Option Tree → List ℕ
after_text None = []
after_text (Some t) = codes " & " ++ spelled t

-- the text that was printed, if one was
unfoldable pub shown_text : Option Bytes → List ℕ
shown_text None = []
shown_text (Some text) = codes " > " ++ quoted text

-- a call with its answer
unfoldable pub call_line : CallRequest → Option Pick → Whose → Result Tree EvalAltResult → Option Tree → Option Bytes → List ℕ
call_line call pick whose answer after shown = label call ++ codes " " ++ pick_text pick ++ codes " " ++ whose_text whose ++ codes " " ++ result_text answer ++ after_text after ++ shown_text shown

-- two spaces for each call above it
abbrev pub indent : ℕ → List ℕ
indent level = replicate (2 * (level - 1)) 32

abbrev mutual
  -- a call on a line, and the calls that it led to on the lines after it
  pub tree_text : CallNode → List ℕ
  tree_text (CallNode' call level begun whose pick carries children answer extras) =
      indent level ++ call_line call pick whose answer extras.first_after extras.printed ++ 10 ∷ [] ++ nodes_text children

  pub nodes_text : Nodes → List ℕ
  nodes_text (Nodes' shape row) = row_text row

  pub row_text : {m : _} → Row_of-CallNode m → List ℕ
  row_text end_of-CallNode = []
  row_text (more_of-CallNode node rest) = tree_text node ++ row_text rest

-- whether something is so
abbrev pub truth_text : Bool → List ℕ
truth_text true = codes "true"
truth_text false = codes "false"

-- the line of a reply
unfoldable pub printed : Reply → List ℕ
printed Done = codes "ok" ++ 10 ∷ []
printed (Made id) = codes "module " ++ decimal id.0 ++ 10 ∷ []
printed (failed fault) = codes "! " ++ spelled_fault (fault_seen fault) ++ 10 ∷ []
printed (Refused fault) = codes "refused " ++ spelled_refusal fault ++ 10 ∷ []
printed (Count vars functions iterators) = codes "count " ++ decimal vars ++ codes " " ++ decimal functions ++ codes " " ++ decimal iterators ++ 10 ∷ []
printed (Truth b) = truth_text b ++ 10 ∷ []
printed (Called node) = tree_text node

-- the lines of replies
abbrev pub all_printed : List Reply → List ℕ
all_printed replies = flat_map printed replies
