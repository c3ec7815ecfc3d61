-- The names that a sentence says are among its tokens.
use Rattle.std.proofs.Common.{◌≡◌, ℕ, ℤ, Bool, true, false, List, [], ◌∷◌, ◌++◌, Option, Some, None, sym, subst, inl, inr}
use Rattle.std.specs.List.{flat_map}
use Rattle.std.specs.Option.{option_to_list}
use Rattle.file_fields.specs.Parts.{Each}
use Rattle.text_tokens.specs.Token.{Lexeme, Name}
use Rattle.tal_syntax.specs.declared.form.TypeText.{TypeText}
use Rattle.tal_syntax.specs.declared.form.TypeText.TheVariants as ty
use Rattle.tal_syntax.specs.declared.form.RegType.{RegType}
use Rattle.tal_syntax.specs.declared.form.Term.{Term}
use Rattle.tal_syntax.specs.declared.form.Term.TheVariants as term
use Rattle.tal_syntax.specs.declared.form.Arg.{Arg}
use Rattle.tal_syntax.specs.declared.form.Arg.TheVariants as arg
use Rattle.tal_syntax.specs.declared.instructions.Operands.{Operands}
use Rattle.tal_syntax.specs.declared.instructions.Operands.TheVariants as operands
use Rattle.tal_syntax.specs.declared.form.Form.{Form}
use Rattle.tal_syntax.specs.declared.form.Form.TheVariants as form
use Rattle.tal_syntax.specs.declared.form.Scope.{Scope}
use Rattle.tal_syntax.specs.declared.form.Scope.TheVariants.{Outside, InClass, InFunc}
use Rattle.tal_syntax.specs.Operands.{negated, operands_of}
use Rattle.tal_syntax.specs.Sentences.{◌⊕◌, Joined}
use Rattle.tal_syntax.specs.Grammar.{mark, name, end_lexeme, type_says, comma, more_says, list_says, typed_says, reg_type_says, external, parent_says, outside_says, member_says, term_says, Negative, signed_says, terms_says, arg_says, count_says, called_says, target_says, alone_says, pair_says, up_to_three_say, args_say, slots_says, code_says, form_says}
use Rattle.tal_names.specs.Mentions.{type_names, reg_type_names, term_names, arg_names, slot_names, form_names}
use Rattle.tal_asm.proofs.NameTokens.{NamesMeet}

-- The names of two lists.
front_meets : (P : List ℕ → Type 0) (xs ys : List Lexeme) → NamesMeet P (xs ++ ys) → NamesMeet P xs
front_meets P [] ys m = tt
front_meets P (x ∷ xs) ys (a, m) = (a, front_meets P xs ys m)

back_meets : (P : List ℕ → Type 0) (xs ys : List Lexeme) → NamesMeet P (xs ++ ys) → NamesMeet P ys
back_meets P [] ys m = m
back_meets P (x ∷ xs) ys (a, m) = back_meets P xs ys m

-- Two lists of names.
pub both_each : (P : List ℕ → Type 0) (xs ys : List (List ℕ)) → Each P xs → Each P ys → Each P (xs ++ ys)
both_each P [] ys a b = b
both_each P (x ∷ xs) ys (is, a) b = (is, both_each P xs ys a b)

-- the names that a language says of a value meet a test where those of the tokens do
pub record Says (P : List ℕ → Type 0) (L : List Lexeme → Type 0) (names : List (List ℕ)) : Type 0 where
  pub meet : (ts : List Lexeme) → NamesMeet P ts → L ts → Each P names

-- One token: a name, or another one.
says_name : (P : List ℕ → Type 0) (n : List ℕ) → Says P (name n) (n ∷ [])
says_name P n = record { meet = λ ts m e. (let k : NamesMeet P (Name n ∷ []) = subst (NamesMeet P) e m in (k.0, tt)) }

-- What says no name.
says_none : (P : List ℕ → Type 0) (L : List Lexeme → Type 0) → Says P L []
says_none P L = record { meet = λ ts m l. tt }

-- What says nothing at all.
says_never : (P : List ℕ → Type 0) (L : List Lexeme → Type 0) (names : List (List ℕ)) → ((ts : List Lexeme) → L ts → ⊥) → Says P L names
says_never P L names never = record { meet = λ ts m l. absurd (never ts l) }

-- One behind the other.
then : (P : List ℕ → Type 0) (L M : List Lexeme → Type 0) (xs ys : List (List ℕ)) → Says P L xs → Says P M ys → Says P (L ⊕ M) (xs ++ ys)
then P L M xs ys l k = record {
  meet = λ ts m j.
      (let parts = subst (NamesMeet P) (Joined.parts j) m in
      both_each P xs ys (l.meet (Joined.front j) (front_meets P (Joined.front j) (Joined.back j) parts) (Joined.one j)) (k.meet (Joined.back j) (back_meets P (Joined.front j) (Joined.back j) parts) (Joined.two j)));
}

-- The first says no name; the second does not.
behind : (P : List ℕ → Type 0) (L M : List Lexeme → Type 0) (ys : List (List ℕ)) → Says P M ys → Says P (L ⊕ M) ys
behind P L M ys k = record { meet = λ ts m j. k.meet (Joined.back j) (back_meets P (Joined.front j) (Joined.back j) (subst (NamesMeet P) (Joined.parts j) m)) (Joined.two j) }

before : (P : List ℕ → Type 0) (L M : List Lexeme → Type 0) (xs : List (List ℕ)) → Says P L xs → Says P (L ⊕ M) xs
before P L M xs l = record { meet = λ ts m j. l.meet (Joined.front j) (front_meets P (Joined.front j) (Joined.back j) (subst (NamesMeet P) (Joined.parts j) m)) (Joined.one j) }

-- ---- types and lists

says_type : (P : List ℕ → Type 0) (t : TypeText) → Says P (type_says t) (type_names t)
unfolding type_names
says_type P ty.Num = says_none P _
says_type P ty.Junk = says_none P _
says_type P (ty.Ref n) = behind P _ _ _ (says_name P n)
says_type P (ty.Obj n) = behind P _ _ _ (says_name P n)
says_type P (ty.ArrRef n) = behind P _ _ _ (says_name P n)
says_type P (ty.Arr n) = behind P _ _ _ (says_name P n)
says_type P (ty.Fun n) = behind P _ _ _ (says_name P n)
says_type P (ty.Code n) = behind P _ _ _ (says_name P n)
says_type P (ty.Tab n) = behind P _ _ _ (says_name P n)
says_type P (ty.Desc n) = behind P _ _ _ (says_name P n)

says_more : {A : Type 0} (P : List ℕ → Type 0) (close : ℕ) (next : A → List Lexeme → Type 0) (names : A → List (List ℕ)) (xs : List A) → ((x : A) → Says P (next x) (names x)) → Says P (more_says close next xs) (flat_map names xs)
says_more P close next names [] says = says_none P _
says_more P close next names (x ∷ xs) says = then P (next x) (more_says close next xs) (names x) (flat_map names xs) (says x) (says_more P close next names xs says)

says_list : {A : Type 0} (P : List ℕ → Type 0) (close : ℕ) (one : A → List Lexeme → Type 0) (names : A → List (List ℕ)) (xs : List A) → ((x : A) → Says P (one x) (names x)) → Says P (list_says close one xs) (flat_map names xs)
says_list P close one names [] says = says_none P _
says_list P close one names (x ∷ xs) says = record {
  meet = λ ts m l.
      (then P (one x) (more_says close (comma one) xs) (names x) (flat_map names xs) (says x)
      (says_more P close (comma one) names xs (λ y. behind P (mark 44) (one y) (names y) (says y)))).meet ts m l.0;
}

says_reg_type : (P : List ℕ → Type 0) (r : RegType) → Says P (reg_type_says r) (reg_type_names r)
says_reg_type P r = behind P (typed_says r.reg) (type_says r.ty) (type_names r.ty) (says_type P r.ty)

-- ---- operands

says_term : (P : List ℕ → Type 0) (t : Term) → Says P (term_says t) (term_names t)
unfolding term_names
says_term P (term.Register r) = says_none P _
says_term P (term.Scaled r k) = says_none P _
says_term P (term.Number n) = says_none P _
says_term P (term.FieldByte c f) = behind P _ _ _ (then P (name c) (name f) (c ∷ []) (f ∷ []) (says_name P c) (says_name P f))
says_term P (term.MethodByte c x) = behind P _ _ _ (then P (name c) (name x) (c ∷ []) (x ∷ []) (says_name P c) (says_name P x))
says_term P (term.DisplayByte c) = behind P _ _ _ (says_name P c)
says_term P (term.StaticAt n) = behind P _ _ _ (says_name P n)

-- a negative number names nothing
negative_none : (P : List ℕ → Type 0) (x : Term) (written : ℤ) → x ≡ negated written → Each P (term_names x)
unfolding term_names
negative_none P x written is = subst (λ x. Each P (term_names x)) (sym is) tt

says_signed : (P : List ℕ → Type 0) (x : Term) → Says P (signed_says x) (term_names x)
says_signed P x = record { meet = λ ts m l. by_sign ts m l }
  where
    by_sign : (ts : List Lexeme) → NamesMeet P ts → signed_says x ts → Each P (term_names x)
    by_sign ts m (inl plus) = (behind P (mark 43) (term_says x) (term_names x) (says_term P x)).meet ts m plus
    by_sign ts m (inr minus) = negative_none P x (Negative.written (Joined.two minus)) (Negative.value (Joined.two minus))

says_terms : (P : List ℕ → Type 0) (xs : List Term) → Says P (terms_says xs) (flat_map term_names xs)
says_terms P [] = says_never P _ _ (λ ts l. l)
says_terms P (x ∷ xs) = record {
  meet = λ ts m l.
      (then P (term_says x) (more_says 93 signed_says xs) (term_names x) (flat_map term_names xs) (says_term P x) (says_more P 93 signed_says term_names xs (says_signed P))).meet ts m l.0;
}

says_arg : (P : List ℕ → Type 0) (a : Arg) → Says P (arg_says a) (arg_names a)
unfolding arg_names
says_arg P (arg.Register r) = says_none P _
says_arg P (arg.Number n) = says_none P _
says_arg P (arg.Null t) = behind P _ _ _ (says_type P t)
says_arg P (arg.Tab c) = behind P _ _ _ (says_name P c)
says_arg P (arg.Desc k) = behind P _ _ _ (says_name P k)
says_arg P (arg.Code f) = behind P _ _ _ (says_name P f)
says_arg P (arg.DataOf d) = behind P _ _ _ (says_name P d)
says_arg P (arg.Memory xs) = behind P _ _ _ (says_terms P xs)
says_arg P arg.Cl = says_never P _ _ (λ ts l. l)
says_arg P (arg.Nucleus n) = says_never P _ _ (λ ts l. l)
says_arg P (arg.Target n) = says_never P _ _ (λ ts l. l)

says_count : (P : List ℕ → Type 0) (a : Arg) → Says P (count_says a) (arg_names a)
unfolding arg_names
says_count P arg.Cl = says_none P _
says_count P (arg.Register r) = says_arg P (arg.Register r)
says_count P (arg.Number n) = says_arg P (arg.Number n)
says_count P (arg.Null t) = says_arg P (arg.Null t)
says_count P (arg.Tab c) = says_arg P (arg.Tab c)
says_count P (arg.Desc k) = says_arg P (arg.Desc k)
says_count P (arg.Code f) = says_arg P (arg.Code f)
says_count P (arg.DataOf d) = says_arg P (arg.DataOf d)
says_count P (arg.Memory xs) = says_arg P (arg.Memory xs)
says_count P (arg.Nucleus n) = says_arg P (arg.Nucleus n)
says_count P (arg.Target n) = says_arg P (arg.Target n)

says_called : (P : List ℕ → Type 0) (a : Arg) → Says P (called_says a) (arg_names a)
unfolding arg_names
says_called P (arg.Register r) = says_none P _
says_called P (arg.Target f) = says_name P f
says_called P (arg.Nucleus n) = says_none P _
says_called P (arg.Memory xs) = behind P _ _ _ (says_terms P xs)
says_called P arg.Cl = says_never P _ _ (λ ts l. l)
says_called P (arg.Number n) = says_never P _ _ (λ ts l. l)
says_called P (arg.Null t) = says_never P _ _ (λ ts l. l)
says_called P (arg.Tab c) = says_never P _ _ (λ ts l. l)
says_called P (arg.Desc k) = says_never P _ _ (λ ts l. l)
says_called P (arg.Code f) = says_never P _ _ (λ ts l. l)
says_called P (arg.DataOf d) = says_never P _ _ (λ ts l. l)

says_target : (P : List ℕ → Type 0) (a : Arg) → Says P (target_says a) (arg_names a)
unfolding arg_names
says_target P (arg.Target l) = says_name P l
says_target P (arg.Register r) = says_never P _ _ (λ ts l. l)
says_target P (arg.Nucleus n) = says_never P _ _ (λ ts l. l)
says_target P (arg.Memory xs) = says_never P _ _ (λ ts l. l)
says_target P arg.Cl = says_never P _ _ (λ ts l. l)
says_target P (arg.Number n) = says_never P _ _ (λ ts l. l)
says_target P (arg.Null t) = says_never P _ _ (λ ts l. l)
says_target P (arg.Tab c) = says_never P _ _ (λ ts l. l)
says_target P (arg.Desc k) = says_never P _ _ (λ ts l. l)
says_target P (arg.Code f) = says_never P _ _ (λ ts l. l)
says_target P (arg.DataOf d) = says_never P _ _ (λ ts l. l)

-- names, and none behind them
and_none : (P : List ℕ → Type 0) (xs : List (List ℕ)) → Each P xs → Each P (xs ++ [])
and_none P xs e = both_each P xs [] e tt

says_alone : (P : List ℕ → Type 0) (says : Arg → List Lexeme → Type 0) → ((a : Arg) → Says P (says a) (arg_names a)) → (xs : List Arg) → Says P (alone_says says xs) (flat_map arg_names xs)
says_alone P says each [] = says_none P _
says_alone P says each (x ∷ []) = then P (says x) end_lexeme (arg_names x) [] (each x) (says_none P end_lexeme)
says_alone P says each (x ∷ y ∷ xs) = says_never P _ _ (λ ts l. l)

says_pair : (P : List ℕ → Type 0) (says : Arg → List Lexeme → Type 0) → ((a : Arg) → Says P (says a) (arg_names a)) → (xs : List Arg) → Says P (pair_says says xs) (flat_map arg_names xs)
says_pair P says each [] = says_none P _
says_pair P says each (x ∷ []) = says_never P _ _ (λ ts l. l)
says_pair P says each (x ∷ y ∷ []) =
    then P (arg_says x) (mark 44 ⊕ says y ⊕ end_lexeme) (arg_names x) (arg_names y ++ []) (says_arg P x) (behind P (mark 44) (says y ⊕ end_lexeme) (arg_names y ++ []) (then P (says y) end_lexeme (arg_names y) [] (each y) (says_none P end_lexeme)))
says_pair P says each (x ∷ y ∷ z ∷ xs) = says_never P _ _ (λ ts l. l)

says_three : (P : List ℕ → Type 0) (xs : List Arg) → Says P (up_to_three_say xs) (flat_map arg_names xs)
says_three P [] = says_none P _
says_three P (x ∷ []) = says_alone P arg_says (says_arg P) (x ∷ [])
says_three P (x ∷ y ∷ []) = says_pair P arg_says (says_arg P) (x ∷ y ∷ [])
says_three P (x ∷ y ∷ z ∷ []) =
    then P (arg_says x) (mark 44 ⊕ arg_says y ⊕ mark 44 ⊕ arg_says z ⊕ end_lexeme) (arg_names x) (arg_names y ++ (arg_names z ++ [])) (says_arg P x)
    (behind P (mark 44) (arg_says y ⊕ mark 44 ⊕ arg_says z ⊕ end_lexeme) (arg_names y ++ (arg_names z ++ []))
    (says_pair P arg_says (says_arg P) (y ∷ z ∷ [])))
says_three P (x ∷ y ∷ z ∷ w ∷ xs) = says_never P _ _ (λ ts l. l)

says_args : (P : List ℕ → Type 0) (o : Operands) (xs : List Arg) → Says P (args_say o xs) (flat_map arg_names xs)
says_args P operands.Zero [] = says_none P _
says_args P operands.Zero (x ∷ xs) = says_never P _ _ (λ ts l. l)
says_args P operands.One xs = says_alone P arg_says (says_arg P) xs
says_args P operands.Two xs = says_pair P arg_says (says_arg P) xs
says_args P operands.UpToThree xs = says_three P xs
says_args P operands.Shifted xs = says_pair P count_says (says_count P) xs
says_args P operands.Called xs = says_alone P called_says (says_called P) xs
says_args P operands.Target xs = says_alone P target_says (says_target P) xs

-- ---- lines

says_external : (P : List ℕ → Type 0) (ext : Bool) (L : List Lexeme → Type 0) (xs : List (List ℕ)) → Says P L xs → Says P (external ext L) xs
says_external P true L xs l = behind P _ L xs l
says_external P false L xs l = l

says_slots : (P : List ℕ → Type 0) (o : Option (List TypeText)) → Says P (slots_says o) (slot_names o)
unfolding slot_names
says_slots P None = says_none P _
says_slots P (Some ts) = behind P _ _ _ (before P (list_says 93 type_says ts) end_lexeme (flat_map type_names ts) (says_list P 93 type_says type_names ts (says_type P)))

says_parent : (P : List ℕ → Type 0) (p : Option (List ℕ)) → Says P (parent_says p) (option_to_list p)
says_parent P None = says_none P _
says_parent P (Some n) = behind P _ _ _ (before P (name n) end_lexeme (n ∷ []) (says_name P n))

-- a name, and what is behind it
first_name : (P : List ℕ → Type 0) (n : List ℕ) (M : List Lexeme → Type 0) (ys : List (List ℕ)) → Says P M ys → Says P (name n ⊕ M) (n ∷ ys)
first_name P n M ys k = then P (name n) M (n ∷ []) ys (says_name P n) k

says_outside : (P : List ℕ → Type 0) (f : Form) → Says P (outside_says f) (form_names f)
unfolding form_names
says_outside P (form.Heap n) = says_none P _
says_outside P (form.Stacks n) = says_none P _
says_outside P (form.Entry s f) = behind P _ _ _ (behind P _ _ _ (first_name P f _ [] (says_none P _)))
says_outside P (form.Sig ext n rs t) = says_external P ext _ _ (behind P _ _ _ (first_name P n _ _ (behind P _ _ _
    (then P (list_says 41 reg_type_says rs) (type_says t ⊕ end_lexeme) (flat_map reg_type_names rs) (type_names t) (says_list P 41 reg_type_says reg_type_names rs (says_reg_type P)) (before P (type_says t) end_lexeme (type_names t) (says_type P t))))))
says_outside P (form.Kind ext n t) = says_external P ext _ _ (behind P _ _ _ (first_name P n _ _ (before P (type_says t) end_lexeme (type_names t) (says_type P t))))
says_outside P (form.Static ext n t) = says_external P ext _ _ (behind P _ _ _ (first_name P n _ _ (before P (type_says t) end_lexeme (type_names t) (says_type P t))))
says_outside P (form.DataArray false n k l ns) = behind P _ _ _ (first_name P n _ _ (first_name P k _ [] (says_none P _)))
says_outside P (form.DataArray true n k l None) = behind P _ _ _ (behind P _ _ _ (first_name P n _ _ (first_name P k _ [] (says_none P _))))
says_outside P (form.DataArray true n k l (Some ns)) = says_never P _ _ (λ ts l. l)
says_outside P (form.Class ext n p) = says_external P ext _ _ (behind P _ _ _ (first_name P n _ _ (says_parent P p)))
says_outside P (form.Func ext n s) = says_external P ext _ _ (behind P _ _ _ (first_name P n _ _ (first_name P s _ [] (says_none P _))))
says_outside P _ = says_never P _ _ (λ ts l. l)

says_member : (P : List ℕ → Type 0) (f : Form) → Says P (member_says f) (form_names f)
unfolding form_names
says_member P (form.Field n t) = behind P _ _ _ (first_name P n _ _ (before P (type_says t) end_lexeme (type_names t) (says_type P t)))
says_member P (form.Method n s f) = behind P _ _ _ (first_name P n _ _ (first_name P s _ _ (first_name P f _ [] (says_none P _))))
says_member P form.End = says_none P _
says_member P _ = says_never P _ _ (λ ts l. l)

says_code : (P : List ℕ → Type 0) (f : Form) → Says P (code_says f) (form_names f)
unfolding form_names
says_code P form.End = says_none P _
says_code P (form.Label n rs slots) = first_name P n _ _ (behind P _ _ _ (behind P _ _ _
    (then P (list_says 41 reg_type_says rs) (slots_says slots) (flat_map reg_type_names rs) (slot_names slots) (says_list P 41 reg_type_says reg_type_names rs (says_reg_type P)) (says_slots P slots))))
says_code P (form.Inst k xs) = behind P _ _ _ (says_args P (operands_of k) xs)
says_code P _ = says_never P _ _ (λ ts l. l)

-- The names of a form are among the tokens that say it.
pub says_form : (P : List ℕ → Type 0) (scope : Scope) (f : Form) → Says P (form_says scope f) (form_names f)
says_form P Outside f = says_outside P f
says_form P InClass f = says_member P f
says_form P InFunc f = says_code P f
