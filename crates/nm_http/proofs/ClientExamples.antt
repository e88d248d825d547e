-- Worked examples of whole heads, computed: byte for byte what curl 7.88.1, the `http.client` of Python 3.11 and Chromium
-- 156 sent to a listener.
use Rattle.std.proofs.Common.{◌≡◌, ◌∷◌, ◌++◌, [], ℕ, List, None, Some, Ok, true, false, codes, refl}
use Rattle.std.specs.Str.{chars, is_utf8}
use lib.Utf8.{encode}
use Rattle.httparse.proofs.OnLiterals.{httparse_on_literals}
use Rattle.nm_http.specs.Fields.{is_close, is_named, length_of, lists_close}
use Rattle.nm_http.specs.Framing.{size_refusal}
use Rattle.nm_http.specs.Head.{head_of}
use Rattle.nm_http.specs.Requests.{request_by, request_of}

-- the lines, each with CR LF at its end, and an empty one
abbrev head : List (List ℕ) → List ℕ
head [] = 13 ∷ 10 ∷ []
head (line ∷ lines) = line ++ 13 ∷ 10 ∷ head lines

curl_get : request_of (head (
    codes "GET /projects HTTP/1.1"
    ∷ codes "Host: 127.0.0.1:8080"
    ∷ codes "User-Agent: curl/7.88.1"
    ∷ codes "Accept: */*"
    ∷ []))
    ≡ Ok (record { method = codes "GET"; path = codes "/projects"; length = None; close = false; expect = false })
unfolding size_refusal head_of request_by is_named length_of is_close lists_close httparse_on_literals chars is_utf8 encode
curl_get = refl

curl_put : request_of (head (
    codes "PUT /project/30000000-0000-4000-8000-000000000001 HTTP/1.1"
    ∷ codes "Host: 127.0.0.1:8080"
    ∷ codes "User-Agent: curl/7.88.1"
    ∷ codes "Accept: */*"
    ∷ codes "Content-Length: 2000000"
    ∷ codes "Expect: 100-continue"
    ∷ []))
    ≡ Ok (record { method = codes "PUT"; path = codes "/project/30000000-0000-4000-8000-000000000001"; length = Some 2000000; close = false; expect = true })
unfolding size_refusal head_of request_by is_named length_of is_close lists_close httparse_on_literals chars is_utf8 encode
curl_put = refl

python_post : request_of (head (
    codes "POST /projects/2027-04-01 HTTP/1.1"
    ∷ codes "Host: 127.0.0.1:8081"
    ∷ codes "Accept-Encoding: identity"
    ∷ codes "Content-Length: 1078"
    ∷ []))
    ≡ Ok (record { method = codes "POST"; path = codes "/projects/2027-04-01"; length = Some 1078; close = false; expect = false })
unfolding size_refusal head_of request_by is_named length_of is_close lists_close httparse_on_literals chars is_utf8 encode
python_post = refl

chromium_page : request_of (head (
    codes "GET /log HTTP/1.1"
    ∷ codes "Host: 127.0.0.1:8082"
    ∷ codes "Connection: keep-alive"
    ∷ codes "sec-ch-ua: \"Not:A-Brand\";v=\"8\", \"Chromium\";v=\"156\""
    ∷ codes "sec-ch-ua-mobile: ?0"
    ∷ codes "sec-ch-ua-platform: \"Linux\""
    ∷ codes "Upgrade-Insecure-Requests: 1"
    ∷ codes "User-Agent: Mozilla/5.0 (X11; Linux x86_64) AppleWebKit/537.36 (KHTML, like Gecko) HeadlessChrome/156.0.0.0 Safari/537.36"
    ∷ codes "Accept: text/html,application/xhtml+xml,application/xml;q=0.9,image/jxl,image/avif,image/webp,image/apng,*/*;q=0.8,application/signed-exchange;v=b3;q=0.7"
    ∷ codes "Sec-Fetch-Site: none"
    ∷ codes "Sec-Fetch-Mode: navigate"
    ∷ codes "Sec-Fetch-User: ?1"
    ∷ codes "Sec-Fetch-Dest: document"
    ∷ codes "Accept-Encoding: gzip, deflate, br, zstd"
    ∷ codes "Accept-Language: en-US,en;q=0.9"
    ∷ []))
    ≡ Ok (record { method = codes "GET"; path = codes "/log"; length = None; close = false; expect = false })
unfolding size_refusal head_of request_by is_named length_of is_close lists_close httparse_on_literals chars is_utf8 encode
chromium_page = refl
