mod Consuming
