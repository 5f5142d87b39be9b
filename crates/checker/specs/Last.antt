-- The uses that stand old in the last walks alone: each body walked with its settled table. Assumes nothing.
use Rattle.std.specs.Prelude.{ℕ, Bool, true, not, List, [], ◌++◌, slice_set}
use Rattle.script.specs.Syntax.{Code, nothing, put, read, fork, turns, region, uses}
use Rattle.script.specs.Stand.{Table, both, of_expr, raised, aged, reading_at, assigned, settle, walk, olds, uses_in}

abbrev pub refused_last : (ℕ → Bool) → Bool → Code → Table → List ℕ
refused_last marked inside nothing t = []
refused_last marked inside (put x e k) t = olds t (uses_in marked e) ++ refused_last marked inside k (slice_set t x.value (of_expr t e))
refused_last marked inside (read x c k) t = refused_last marked inside k (slice_set t x.value (reading_at inside))
refused_last marked inside (fork e a b k) t =
    olds t (uses_in marked e) ++ (refused_last marked inside a t ++ (refused_last marked inside b t
    ++ refused_last marked inside k (raised (of_expr t e) (assigned a (assigned b [])) (both (walk inside a t) (walk inside b t)))))
refused_last marked inside (turns n b k) t =
    refused_last marked inside b (settle (walk inside b) t)
    ++ refused_last marked inside k (walk inside b (settle (walk inside b) t))
refused_last marked inside (region b k) t =
    refused_last marked true b (aged (not inside) t)
    ++ refused_last marked inside k (aged (not inside) (walk true b (aged (not inside) t)))
refused_last marked inside (uses xs k) t = olds t xs ++ refused_last marked inside k t
