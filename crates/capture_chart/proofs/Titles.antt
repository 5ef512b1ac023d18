-- A title, written part by part.
use Rattle.std.proofs.Common.{◌≡◌, ℕ, List, ◌++◌, ap, ◌∙◌, append_assoc}
use Rattle.std.specs.Prelude.{codes, decimal}
use Rattle.capture_chart.specs.declared.marks.Mark.{Mark}
use Rattle.capture_chart.specs.Marks.{mark_words}
use Rattle.capture_chart.specs.Shown.{Shown, course_words, title_text, told_text, topic_words}

six_assoc : (a b c d e f : List ℕ) → ((((a ++ b) ++ c) ++ d) ++ e) ++ f ≡ a ++ (b ++ (c ++ (d ++ (e ++ f))))
six_assoc a b c d e f = simp append_assoc

pub title_is : (mark : Mark) (shown : Shown) (s0 s1 s2 s3 s4 s5 n k w t m : List ℕ) → s0 ≡ n → n ≡ decimal shown.number → s1 ≡ s0 ++ codes " connection " → s2 ≡ s1 ++ k → k ≡ decimal shown.connection
    → s3 ≡ s2 ++ w → w ≡ course_words shown.course → s4 ≡ s3 ++ t → t ≡ topic_words shown.topic → s5 ≡ s4 ++ m → m ≡ mark_words mark → s5 ≡ title_text mark shown
unfolding title_text
title_is mark shown s0 s1 s2 s3 s4 s5 n k w t m a n_is b d k_is e w_is f t_is g m_is =
    let first = decimal shown.number in
    let second = codes " connection " in
    let whole : s5 ≡ ((((first ++ second) ++ k) ++ w) ++ t) ++ m =
    g ∙ ap (λ (x : List ℕ). x ++ m) (f ∙ ap (λ (x : List ℕ). x ++ t) (e ∙ ap (λ (x : List ℕ). x ++ w) (d ∙ ap (λ (x : List ℕ). x ++ k) (b ∙ ap (λ (x : List ℕ). x ++ second) (a ∙ n_is))))) in
    whole ∙ six_assoc first second k w t m
    ∙ ap (λ (x : List ℕ). first ++ (second ++ (x ++ (w ++ (t ++ m))))) k_is
    ∙ ap (λ (x : List ℕ). first ++ (second ++ (decimal shown.connection ++ (x ++ (t ++ m))))) w_is
    ∙ ap (λ (x : List ℕ). first ++ (second ++ (decimal shown.connection ++ (course_words shown.course ++ (x ++ m))))) t_is
    ∙ ap (λ (x : List ℕ). first ++ (second ++ (decimal shown.connection ++ (course_words shown.course ++ (topic_words shown.topic ++ x))))) m_is

pub told_title_is : (number : ℕ) (shown : Shown) (s0 s1 s2 n k : List ℕ) → s0 ≡ n → n ≡ decimal shown.number → s1 ≡ s0 ++ codes " tells the outcome of " → s2 ≡ s1 ++ k → k ≡ decimal number → s2 ≡ told_text number shown
unfolding told_text
told_title_is number shown s0 s1 s2 n k a n_is b d k_is =
    let words = codes " tells the outcome of " in
    d
    ∙ ap (λ (x : List ℕ). x ++ k) (b ∙ ap (λ (x : List ℕ). x ++ words) (a ∙ n_is))
    ∙ append_assoc (decimal shown.number) words k
    ∙ ap (λ (x : List ℕ). decimal shown.number ++ (words ++ x)) k_is
