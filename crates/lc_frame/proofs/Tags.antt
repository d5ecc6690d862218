-- A tag byte is its kind and its channel, and no other.
use Rattle.std.proofs.Common.{◌≡◌, ℕ, zero, suc, ◌/◌, ◌%◌, Some, refl, ap, ◌∙◌, arith}
use Rattle.lc_frame.specs.declared.channel.Channel.{Channel}
use Rattle.lc_frame.specs.declared.channel.Channel.TheVariants.{Reconciliation, Data, Overlap, Capability, AreaOfInterest, PayloadRequest, StaticToken}
use Rattle.lc_frame.specs.declared.kind.Kind.{Kind}
use Rattle.lc_frame.specs.declared.kind.Kind.TheVariants.{Send, Issue, Absolve, Plead, LimitSending, LimitReceiving, Finish}
use Rattle.lc_frame.specs.Channel.{number_of}
use Rattle.lc_frame.specs.Kind.{code_of, kind_at}
use Rattle.lc_frame.specs.Encoding.{tag_of}
use Rattle.lc_frame.specs.Channel.{channel_at}
use Rattle.lc_frame.proofs.Channels.{channel_at-number_of, number_below}

kind_of_code : (k : Kind) → kind_at (code_of k) ≡ Some k
kind_of_code Send = refl
kind_of_code Issue = refl
kind_of_code Absolve = refl
kind_of_code Plead = refl
kind_of_code LimitSending = refl
kind_of_code LimitReceiving = refl
kind_of_code Finish = refl

pub kind_again : (k : Kind) (c : Channel) → kind_at (tag_of k c / 16) ≡ Some k
kind_again k c =
    let small = number_below c in
    let e : tag_of k c / 16 ≡ code_of k = omega arith in
    ap kind_at e ∙ kind_of_code k

pub channel_again : (k : Kind) (c : Channel) → channel_at (tag_of k c % 16) ≡ Some c
channel_again k c =
    let small = number_below c in
    let e : tag_of k c % 16 ≡ number_of c = omega arith in
    ap channel_at e ∙ channel_at-number_of c

code_from : (n : ℕ) (k : Kind) → kind_at n ≡ Some k → n ≡ code_of k
code_from zero k e = absurd cc
code_from (suc zero) k e = let s : Send ≡ k = cc in ap code_of s
code_from (suc (suc zero)) k e = let s : Issue ≡ k = cc in ap code_of s
code_from (suc (suc (suc zero))) k e = let s : Absolve ≡ k = cc in ap code_of s
code_from (suc (suc (suc (suc zero)))) k e = let s : Plead ≡ k = cc in ap code_of s
code_from (suc (suc (suc (suc (suc zero))))) k e = let s : LimitSending ≡ k = cc in ap code_of s
code_from (suc (suc (suc (suc (suc (suc zero)))))) k e = let s : LimitReceiving ≡ k = cc in ap code_of s
code_from (suc (suc (suc (suc (suc (suc (suc zero))))))) k e = let s : Finish ≡ k = cc in ap code_of s
code_from (suc (suc (suc (suc (suc (suc (suc (suc n)))))))) k e = absurd cc

number_from : (n : ℕ) (c : Channel) → channel_at n ≡ Some c → n ≡ number_of c
number_from zero c e = let s : Reconciliation ≡ c = cc in ap number_of s
number_from (suc zero) c e = let s : Data ≡ c = cc in ap number_of s
number_from (suc (suc zero)) c e = let s : Overlap ≡ c = cc in ap number_of s
number_from (suc (suc (suc zero))) c e = let s : Capability ≡ c = cc in ap number_of s
number_from (suc (suc (suc (suc zero)))) c e = let s : AreaOfInterest ≡ c = cc in ap number_of s
number_from (suc (suc (suc (suc (suc zero))))) c e = let s : PayloadRequest ≡ c = cc in ap number_of s
number_from (suc (suc (suc (suc (suc (suc zero)))))) c e = let s : StaticToken ≡ c = cc in ap number_of s
number_from (suc (suc (suc (suc (suc (suc (suc n))))))) c e = absurd cc

pub tag_from : (b : ℕ) (k : Kind) (c : Channel) → kind_at (b / 16) ≡ Some k → channel_at (b % 16) ≡ Some c → b ≡ tag_of k c
tag_from b k c ek ec =
    let high = code_from (b / 16) k ek in
    let low = number_from (b % 16) c ec in
    omega arith
