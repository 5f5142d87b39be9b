-- The syntax of scripts: what stands between the grammar and everything that is said of a script. Assumes nothing.
use Rattle.std.specs.Prelude.{ℕ, List, [], ◌∷◌}

-- a token but for what it is: its first byte, its length, and its value
pub record Leaf : Type 0 where
  pub place : ℕ
  pub len : ℕ
  pub value : ℕ

-- ---- expressions. `{ .. }` of the grammar is a list: no more, or one and then the others

mutual
  -- sum [ ( "<" | "==" ) sum ]
  pub data Expr : Type 0 where
    alone : Sum → Expr
    less : Sum → Leaf → Sum → Expr
    same : Sum → Leaf → Sum → Expr

  -- term { ( "+" | "-" ) term }
  pub data Sum : Type 0 where
    sum : Term → Terms → Sum

  pub data Terms : Type 0 where
    no_term : Terms
    plus : Leaf → Term → Terms → Terms
    minus : Leaf → Term → Terms → Terms

  -- factor { ( "*" | "/" ) factor }
  pub data Term : Type 0 where
    term : Factor → Factors → Term

  pub data Factors : Type 0 where
    no_factor : Factors
    times : Leaf → Factor → Factors → Factors
    over : Leaf → Factor → Factors → Factors

  -- [ "-" ] number | name | "(" expr ")"
  pub data Factor : Type 0 where
    number : Leaf → Factor
    negative : Leaf → Leaf → Factor
    name : Leaf → Factor
    paren : Leaf → Expr → Leaf → Factor

-- ---- statements, as written: each with the statements that follow it in its block

-- { "," name }
pub data Names : Type 0 where
  no_name : Names
  comma : Leaf → Leaf → Names → Names

pub data Block : Type 0 where
  done : Block
  assign : (target becomes : Leaf) → Expr → (end : Leaf) → Block → Block
  reading : (target becomes word channel end : Leaf) → Block → Block
  when : (word : Leaf) → Expr → (open' : Leaf) → Block → (close : Leaf) → Block → Block
  either : (word : Leaf) → Expr → (open' : Leaf) → Block → (close other open'' : Leaf) → Block → (close' : Leaf) → Block → Block
  loop : (word count open' : Leaf) → Block → (close : Leaf) → Block → Block
  atomic : (word open' : Leaf) → Block → (close : Leaf) → Block → Block
  together : (word first : Leaf) → Names → (end : Leaf) → Block → Block

-- ---- declarations and scripts

pub data Decls : Type 0 where
  no_decl : Decls
  cell : (word called is number end : Leaf) → Decls → Decls
  minus_cell : (word called is minus number end : Leaf) → Decls → Decls
  var : (word called end : Leaf) → Decls → Decls
  fresh : (word called end : Leaf) → Decls → Decls

pub record Script : Type 0 where
  pub decls : Decls
  pub word : Leaf
  pub open' : Leaf
  pub main : Block
  pub close : Leaf

-- ---- the names that an expression reads, in the text's order, before others

abbrev mutual
  pub reads : Expr → List Leaf → List Leaf
  reads (alone s) xs = reads_sum s xs
  reads (less s _ u) xs = reads_sum s (reads_sum u xs)
  reads (same s _ u) xs = reads_sum s (reads_sum u xs)

  pub reads_sum : Sum → List Leaf → List Leaf
  reads_sum (sum t ts) xs = reads_term t (reads_terms ts xs)

  pub reads_terms : Terms → List Leaf → List Leaf
  reads_terms no_term xs = xs
  reads_terms (plus _ t ts) xs = reads_term t (reads_terms ts xs)
  reads_terms (minus _ t ts) xs = reads_term t (reads_terms ts xs)

  pub reads_term : Term → List Leaf → List Leaf
  reads_term (term f fs) xs = reads_factor f (reads_factors fs xs)

  pub reads_factors : Factors → List Leaf → List Leaf
  reads_factors no_factor xs = xs
  reads_factors (times _ f fs) xs = reads_factor f (reads_factors fs xs)
  reads_factors (over _ f fs) xs = reads_factor f (reads_factors fs xs)

  pub reads_factor : Factor → List Leaf → List Leaf
  reads_factor (number _) xs = xs
  reads_factor (negative _ _) xs = xs
  reads_factor (name x) xs = x ∷ xs
  reads_factor (paren _ e _) xs = reads e xs

-- the names that a together lists after its first
abbrev pub listed : Names → List Leaf
listed no_name = []
listed (comma _ x xs) = x ∷ listed xs

-- ---- what the statements say, without their marks

pub data Code : Type 0 where
  nothing : Code
  put : (target : Leaf) → Expr → Code → Code
  read : (target channel : Leaf) → Code → Code
  fork : Expr → (first second : Code) → Code → Code
  turns : (count : Leaf) → (body : Code) → Code → Code
  region : (body : Code) → Code → Code
  uses : List Leaf → Code → Code

-- a missing else is an empty one
abbrev pub code : Block → Code
code done = nothing
code (assign x _ e _ k) = put x e (code k)
code (reading x _ _ c _ k) = read x c (code k)
code (when _ e _ a _ k) = fork e (code a) nothing (code k)
code (either _ e _ a _ _ _ b _ k) = fork e (code a) (code b) (code k)
code (loop _ n _ b _ k) = turns n (code b) (code k)
code (atomic _ _ b _ k) = region (code b) (code k)
code (together _ x xs _ k) = uses (x ∷ listed xs) (code k)
