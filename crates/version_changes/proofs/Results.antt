-- What an answer tells, told of it in other words.
use Rattle.std.specs.Prelude.{IfErr, IfOk, Ok, Err, Result}

pub if_ok : {A E : Type 0} (r : Result A E) (P Q : A → Type 0) → ((x : A) → P x → Q x) → IfOk r P
    → IfOk r Q
if_ok (Ok x) P Q f p = f x p
if_ok (Err e) P Q f p = tt

pub if_err : {A E : Type 0} (r : Result A E) (P Q : E → Type 0) → ((e : E) → P e → Q e) → IfErr r P
    → IfErr r Q
if_err (Ok x) P Q f p = tt
if_err (Err e) P Q f p = f e p
