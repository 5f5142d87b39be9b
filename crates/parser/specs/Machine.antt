-- The reader as a machine: what it wants next, and the stack of what is open. Assumes nothing.
use Rattle.std.specs.Prelude.{◌≡◌, ℕ, ◌-◌, ◌<◌, Bool, true, false, cond, ◌⊎◌, List, [], ◌∷◌, length, reverse, Some, None, Ok, Err, Option, Result, ◌==◌}
use Rattle.script.specs.declared.fault.Fault.{Fault}
use Rattle.script.specs.declared.row.Role.{Role}
use Rattle.script.specs.declared.row.Role.TheVariants as role
use Rattle.script.specs.declared.row.Row.{Row}
use Rattle.script.specs.declared.token.Sym.{Sym}
use Rattle.script.specs.declared.token.Sym.TheVariants as sym
use Rattle.script.specs.declared.token.Tok.{Tok}
use Rattle.script.specs.Faults.{fault}
use Rattle.parser.specs.declared.machine.Ends.{Ends}
use Rattle.parser.specs.declared.machine.Ends.TheVariants as ends
use Rattle.parser.specs.declared.machine.Want.{Want}
use Rattle.parser.specs.declared.machine.Want.TheVariants as want
use Rattle.parser.specs.declared.machine.Frame.{Frame}
use Rattle.parser.specs.declared.machine.Frame.TheVariants as frame
use Rattle.parser.specs.declared.machine.Mark.{Mark}
use Rattle.parser.specs.declared.machine.Mark.TheVariants as mark
use Rattle.parser.specs.declared.machine.Move.{Move}
use Rattle.parser.specs.declared.machine.Move.TheVariants.{Stay, Push, Pop, Refuse}
use Rattle.parser.specs.declared.machine.Machine.{Machine}
use Rattle.script.specs.Nesting.{open_after}

-- ---- whether two symbols are the same, by number

abbrev pub code : Sym → ℕ
code sym.Cell = 0
code sym.Var = 1
code sym.Fresh = 2
code sym.Main = 3
code sym.In = 4
code sym.If = 5
code sym.Else = 6
code sym.Repeat = 7
code sym.Atomic = 8
code sym.Together = 9
code sym.BraceOpen = 10
code sym.BraceClose = 11
code sym.ParenOpen = 12
code sym.ParenClose = 13
code sym.Semicolon = 14
code sym.Comma = 15
code sym.Assign = 16
code sym.Less = 17
code sym.Same = 18
code sym.Plus = 19
code sym.Minus = 20
code sym.Times = 21
code sym.Over = 22
code sym.Name = 23
code sym.Number = 24

abbrev pub is : Sym → Sym → Bool
is a b = code a == code b

abbrev pub on : Sym → Sym → Move → Move → Move
on s t yes' no' = cond (is s t) yes' no'

-- ---- the table of moves

-- a declaration, or main
abbrev pub decl : Sym → Move
decl s =
    on s sym.Cell (Stay role.CellWord want.CellName)
    (on s sym.Var (Stay role.VarWord want.VarName)
    (on s sym.Fresh (Stay role.FreshWord want.FreshName)
    (on s sym.Main (Stay role.MainWord want.MainOpen) Refuse)))

-- the brace that opens a block
abbrev pub block : Role → Frame → Sym → Move
block r f s = on s sym.BraceOpen (Push r f want.Stmt) Refuse

-- a statement, or the end of the block
abbrev pub stmt : Sym → Move
stmt s =
    on s sym.Name (Stay role.Target want.Becomes)
    (on s sym.If (Stay role.IfWord (want.Operand ends.Brace false))
    (on s sym.Repeat (Stay role.RepeatWord want.Count)
    (on s sym.Atomic (Stay role.AtomicWord want.RegionOpen)
    (on s sym.Together (Stay role.TogetherWord want.Listed)
    (on s sym.BraceClose (Pop mark.Brace) Refuse)))))

-- after an if's first block
abbrev pub over : Sym → Move
over s = on s sym.Else (Stay role.ElseWord want.ElseOpen) (stmt s)

-- the first token of a factor
abbrev pub operand : Ends → Bool → Sym → Move
operand e c s =
    on s sym.Number (Stay role.Literal (want.More e c))
    (on s sym.Minus (Stay role.Negate (want.Negated e c))
    (on s sym.Name (Stay role.Operand (want.More e c))
    (on s sym.ParenOpen (Push role.ParenOpen (frame.Paren e c) (want.Operand ends.Paren false)) Refuse)))

-- what a name becomes
abbrev pub source : Sym → Move
source s = on s sym.In (Stay role.InWord want.Channel) (operand ends.Semi false s)

-- what ends an expression
abbrev pub finish : Ends → Sym → Move
finish ends.Semi s = on s sym.Semicolon (Stay role.SetEnd want.Stmt) Refuse
finish ends.Brace s = on s sym.BraceOpen (Push role.ThenOpen frame.Then want.Stmt) Refuse
finish ends.Paren s = on s sym.ParenClose (Pop mark.Paren) Refuse

-- a comparison, unless there was one, or the end of the expression
abbrev pub compared : Ends → Bool → Sym → Move
compared e false s = on s sym.Less (Stay role.Less (want.Operand e true)) (on s sym.Same (Stay role.Same (want.Operand e true)) (finish e s))
compared e true s = finish e s

-- what follows a factor
abbrev pub more : Ends → Bool → Sym → Move
more e c s =
    on s sym.Times (Stay role.Times (want.Operand e c))
    (on s sym.Over (Stay role.Over (want.Operand e c))
    (on s sym.Plus (Stay role.Plus (want.Operand e c))
    (on s sym.Minus (Stay role.Minus (want.Operand e c)) (compared e c s))))

abbrev pub rule : Want → Sym → Move
rule want.Decl s = decl s
rule want.CellName s = on s sym.Name (Stay role.CellName want.CellIs) Refuse
rule want.CellIs s = on s sym.Assign (Stay role.CellIs want.CellValue) Refuse
rule want.CellValue s = on s sym.Minus (Stay role.CellMinus want.CellNumber) (on s sym.Number (Stay role.CellNumber want.CellEnd) Refuse)
rule want.CellNumber s = on s sym.Number (Stay role.CellNumber want.CellEnd) Refuse
rule want.CellEnd s = on s sym.Semicolon (Stay role.CellEnd want.Decl) Refuse
rule want.VarName s = on s sym.Name (Stay role.VarName want.VarEnd) Refuse
rule want.VarEnd s = on s sym.Semicolon (Stay role.VarEnd want.Decl) Refuse
rule want.FreshName s = on s sym.Name (Stay role.FreshName want.FreshEnd) Refuse
rule want.FreshEnd s = on s sym.Semicolon (Stay role.FreshEnd want.Decl) Refuse
rule want.MainOpen s = block role.MainOpen frame.Main s
rule want.Stmt s = stmt s
rule want.Over s = over s
rule want.Becomes s = on s sym.Assign (Stay role.Becomes want.Source) Refuse
rule want.Source s = source s
rule want.Channel s = on s sym.Number (Stay role.Channel want.ReadEnd) Refuse
rule want.ReadEnd s = on s sym.Semicolon (Stay role.ReadEnd want.Stmt) Refuse
rule (want.Operand e c) s = operand e c s
rule (want.Negated e c) s = on s sym.Number (Stay role.Negated (want.More e c)) Refuse
rule (want.More e c) s = more e c s
rule want.Count s = on s sym.Number (Stay role.Count want.BodyOpen) Refuse
rule want.BodyOpen s = block role.BodyOpen frame.Body s
rule want.RegionOpen s = block role.RegionOpen frame.Region s
rule want.ElseOpen s = block role.ElseOpen frame.Other s
rule want.Listed s = on s sym.Name (Stay role.Listed want.ListMore) Refuse
rule want.ListMore s = on s sym.Comma (Stay role.Comma want.Listed) (on s sym.Semicolon (Stay role.TogetherEnd want.Stmt) Refuse)
rule want.End s = Refuse

-- what is wanted once a mark has closed what is open, which must be of its own kind
abbrev pub closed : Mark → Frame → Option Want
closed mark.Brace frame.Main = Some want.End
closed mark.Brace frame.Then = Some want.Over
closed mark.Brace frame.Other = Some want.Stmt
closed mark.Brace frame.Body = Some want.Stmt
closed mark.Brace frame.Region = Some want.Stmt
closed mark.Brace (frame.Paren e c) = None
closed mark.Paren frame.Main = None
closed mark.Paren frame.Then = None
closed mark.Paren frame.Other = None
closed mark.Paren frame.Body = None
closed mark.Paren frame.Region = None
closed mark.Paren (frame.Paren e c) = Some (want.More e c)

-- the role of the mark that closes it; the flag says that an else follows
abbrev pub closing : Frame → Bool → Role
closing frame.Main b = role.MainClose
closing frame.Then b = cond b role.ThenClose role.WhenClose
closing frame.Other b = role.ElseClose
closing frame.Body b = role.BodyClose
closing frame.Region b = role.RegionClose
closing (frame.Paren e c) b = role.ParenClose

abbrev pub is_end : Want → Bool
is_end want.Decl = false
is_end want.CellName = false
is_end want.CellIs = false
is_end want.CellValue = false
is_end want.CellNumber = false
is_end want.CellEnd = false
is_end want.VarName = false
is_end want.VarEnd = false
is_end want.FreshName = false
is_end want.FreshEnd = false
is_end want.MainOpen = false
is_end want.Stmt = false
is_end want.Over = false
is_end want.Becomes = false
is_end want.Source = false
is_end want.Channel = false
is_end want.ReadEnd = false
is_end (want.Operand e c) = false
is_end (want.Negated e c) = false
is_end (want.More e c) = false
is_end want.Count = false
is_end want.BodyOpen = false
is_end want.RegionOpen = false
is_end want.ElseOpen = false
is_end want.Listed = false
is_end want.ListMore = false
is_end want.End = true

-- ---- the machine

pub record State : Type 0 where
  pub want : Want
  pub stack : List Frame

abbrev pub at : Want → List Frame → State
at w fs = record { want = w; stack = fs }

abbrev pub after : Option Want → List Frame → Option State
after None fs = None
after (Some w) fs = Some (at w fs)

abbrev pub popped : Mark → List Frame → Option State
popped m [] = None
popped m (f ∷ fs) = after (closed m f) fs

-- the state after a move, unless it is refused
abbrev pub moved : Move → List Frame → Option State
moved (Stay r w) fs = Some (at w fs)
moved (Push r f w) fs = Some (at w (f ∷ fs))
moved (Pop m) fs = popped m fs
moved Refuse fs = None

abbrev pub top_closing : List Frame → Bool → Role
top_closing [] b = role.MainClose
top_closing (f ∷ fs) b = closing f b

-- the role that a move gives its token
abbrev pub given : Move → List Frame → Bool → Role
given (Stay r w) fs b = r
given (Push r f w) fs b = r
given (Pop m) fs b = top_closing fs b
given Refuse fs b = role.MainClose

-- the token as a row of the role
abbrev pub marked : Role → Tok → Row
marked r t = record { role = r; place = t.place; len = t.len; value = t.value }

-- whether an else comes next
abbrev pub otherwise : List Tok → Bool
otherwise [] = false
otherwise (t ∷ ts) = is t.sym sym.Else

abbrev pub put : Row → Result (List Row) Fault → Result (List Row) Fault
put r (Ok rs) = Ok (r ∷ rs)
put r (Err f) = Err f

abbrev pub goes : Tok → Role → Option State → (State → Result (List Row) Fault) → Result (List Row) Fault
goes t r None k = Err (fault 6 t.place)
goes t r (Some s) k = put (marked r t) (k s)

abbrev pub turn : Tok → Move → List Frame → Bool → (State → Result (List Row) Fault) → Result (List Row) Fault
turn t m fs b k = goes t (given m fs b) (moved m fs) k

-- the rows of the tokens from a state on; `end` is the text's length
abbrev pub run : ℕ → List Tok → State → Result (List Row) Fault
run end [] s = cond (is_end s.want) (Ok []) (Err (fault 6 end))
run end (t ∷ ts) s = turn t (rule s.want t.sym) s.stack (otherwise ts) (run end ts)

abbrev pub start : State
start = at want.Decl []

-- ---- the machine of the code

-- how many are open
abbrev pub depth_of : Machine → ℕ
depth_of m = length m.stack.items

-- the top of the stack is its last entry
abbrev pub view_of : Machine → State
view_of m = at m.want (reverse m.stack.items)

abbrev pub rule_of : Machine → Tok → Move
rule_of m t = rule m.want t.sym

-- a token takes the machine on, as a row
pub record Goes (m : Machine) (t : Tok) (b : Bool) (r : Row) (m' : Machine) : Type 0 where
  pub state : moved (rule_of m t) (view_of m).stack ≡ Some (view_of m')
  pub row : r ≡ marked (given (rule_of m t) (view_of m).stack b) t
  pub depth : open_after t.sym (depth_of m) ≡ Some (depth_of m')

-- a token stops it: it is refused, or too deep
abbrev pub Stops : Machine → Tok → Fault → Type 0
Stops m t f = ((moved (rule_of m t) (view_of m).stack ≡ None) × (f ≡ fault 6 t.place)) ⊎ (open_after t.sym (depth_of m) ≡ None)

-- the same of a closing mark, by what is open
pub record Pops (m : Machine) (mark : Mark) (t : Tok) (b : Bool) (r : Row) (m' : Machine) : Type 0 where
  pub state : popped mark (view_of m).stack ≡ Some (view_of m')
  pub row : r ≡ marked (top_closing (view_of m).stack b) t
  pub before : 0 < depth_of m
  pub depth : depth_of m - 1 ≡ depth_of m'
