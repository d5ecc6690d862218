mod Decimal
mod Digits
mod LastDigits
mod Listings
mod Open
mod Scripts
mod Written
