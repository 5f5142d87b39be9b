-- One pass over the statements: each repeat has the entry kept so far, and its body is walked once. Assumes nothing.
use Rattle.std.proofs.Common.{ℕ, ◌+◌, Bool, true, not, ◌||◌, List, [], ◌∷◌, ◌++◌, set}
use Rattle.script.specs.Syntax.{Code, nothing, put, read, fork, turns, region, uses}
use Rattle.script.specs.Stand.{Table, both, of_expr, raised, aged, reading_at, assigned, olds, uses_in}
use Rattle.checker.specs.Machine.{exceeds}

-- an entry for each repeat
abbrev pub Mem : Code → Type 0
Mem nothing = Unit {0}
Mem (put x e k) = Mem k
Mem (read x c k) = Mem k
Mem (fork e a b k) = Mem a × Mem b × Mem k
Mem (turns n b k) = Table × Mem b × Mem k
Mem (region b k) = Mem b × Mem k
Mem (uses xs k) = Mem k

-- the table after a pass
abbrev pub end_of : Bool → (k : Code) → Mem k → Table → Table
end_of i nothing m t = t
end_of i (put x e k) m t = end_of i k m (set t x.value (of_expr t e))
end_of i (read x c k) m t = end_of i k m (set t x.value (reading_at i))
end_of i (fork e a b k) m t = end_of i k m.2 (raised (of_expr t e) (assigned a (assigned b [])) (both (end_of i a m.0 t) (end_of i b m.1 t)))
end_of i (turns n b k) m t = end_of i k m.2 (end_of i b m.1 (both t m.0))
end_of i (region b k) m t = end_of i k m.1 (aged (not i) (end_of true b m.0 (aged (not i) t)))
end_of i (uses xs k) m t = end_of i k m t

-- the entries after a pass
abbrev pub kept_of : Bool → (k : Code) → Mem k → Table → Mem k
kept_of i nothing m t = m
kept_of i (put x e k) m t = kept_of i k m (set t x.value (of_expr t e))
kept_of i (read x c k) m t = kept_of i k m (set t x.value (reading_at i))
kept_of i (fork e a b k) m t =
    (kept_of i a m.0 t, kept_of i b m.1 t, kept_of i k m.2 (raised (of_expr t e) (assigned a (assigned b [])) (both (end_of i a m.0 t) (end_of i b m.1 t))))
kept_of i (turns n b k) m t =
    (both (both t m.0) (end_of i b m.1 (both t m.0)), kept_of i b m.1 (both t m.0), kept_of i k m.2 (end_of i b m.1 (both t m.0)))
kept_of i (region b k) m t = (kept_of true b m.0 (aged (not i) t), kept_of i k m.1 (aged (not i) (end_of true b m.0 (aged (not i) t))))
kept_of i (uses xs k) m t = kept_of i k m t

-- the places of the uses that stand old in a pass
abbrev pub told : (ℕ → Bool) → Bool → (k : Code) → Mem k → Table → List ℕ
told marked i nothing m t = []
told marked i (put x e k) m t = olds t (uses_in marked e) ++ told marked i k m (set t x.value (of_expr t e))
told marked i (read x c k) m t = told marked i k m (set t x.value (reading_at i))
told marked i (fork e a b k) m t =
    olds t (uses_in marked e) ++ (told marked i a m.0 t ++ (told marked i b m.1 t
    ++ told marked i k m.2 (raised (of_expr t e) (assigned a (assigned b [])) (both (end_of i a m.0 t) (end_of i b m.1 t)))))
told marked i (turns n b k) m t = told marked i b m.1 (both t m.0) ++ told marked i k m.2 (end_of i b m.1 (both t m.0))
told marked i (region b k) m t = told marked true b m.0 (aged (not i) t) ++ told marked i k m.1 (aged (not i) (end_of true b m.0 (aged (not i) t)))
told marked i (uses xs k) m t = olds t xs ++ told marked i k m t

-- whether an entry rose, or one had risen before
abbrev pub rose_of : Bool → (k : Code) → Mem k → Table → Bool → Bool
rose_of i nothing m t r = r
rose_of i (put x e k) m t r = rose_of i k m (set t x.value (of_expr t e)) r
rose_of i (read x c k) m t r = rose_of i k m (set t x.value (reading_at i)) r
rose_of i (fork e a b k) m t r =
    rose_of i k m.2 (raised (of_expr t e) (assigned a (assigned b [])) (both (end_of i a m.0 t) (end_of i b m.1 t))) (rose_of i b m.1 t (rose_of i a m.0 t r))
rose_of i (turns n b k) m t r =
    rose_of i k m.2 (end_of i b m.1 (both t m.0)) (rose_of i b m.1 (both t m.0) (r || exceeds m.0 t) || exceeds (both t m.0) (end_of i b m.1 (both t m.0)))
rose_of i (region b k) m t r =
    rose_of i k m.1 (aged (not i) (end_of true b m.0 (aged (not i) t))) (rose_of true b m.0 (aged (not i) t) r)
rose_of i (uses xs k) m t r = rose_of i k m t r

abbrev pub repeats : Code → ℕ
repeats nothing = 0
repeats (put x e k) = repeats k
repeats (read x c k) = repeats k
repeats (fork e a b k) = repeats a + (repeats b + repeats k)
repeats (turns n b k) = 1 + (repeats b + repeats k)
repeats (region b k) = repeats b + repeats k
repeats (uses xs k) = repeats k

-- the entries in the order of the text, before others
abbrev pub flat : (k : Code) → Mem k → List Table → List Table
flat nothing m rest = rest
flat (put x e k) m rest = flat k m rest
flat (read x c k) m rest = flat k m rest
flat (fork e a b k) m rest = flat a m.0 (flat b m.1 (flat k m.2 rest))
flat (turns n b k) m rest = m.0 ∷ flat b m.1 (flat k m.2 rest)
flat (region b k) m rest = flat b m.0 (flat k m.1 rest)
flat (uses xs k) m rest = flat k m rest
